use Rattle.script.proofs.WritingLemmas.{fails_after}
use Rattle.script.proofs.words.push_words.Goals as goal

pub returns-in_err-push_spaced : goal.returns-in_err-push_spaced
returns-in_err-push_spaced g c = fails_after _ c.from_residual.result _ _ _ _ _ c.from_residual.ensures.1 c.loop-word.invariant c.in_err-push_spaced.ensures
