use Rattle.script.proofs.WritingLemmas.{adds_after, fails_after}
use Rattle.script.proofs.answer_writer.push_numbers.Goals as goal

pub returns-in_err-push_word-2 : goal.returns-in_err-push_word-2
returns-in_err-push_word-2 g c =
    fails_after _ c.from_residual-in_err-push_word-2.result _ _ _ _ _ c.from_residual-in_err-push_word-2.ensures.1 c.in_ok-push_word.ensures c.in_err-push_word-2.ensures

pub returns : goal.returns
returns g c =
    adds_after c.push_spaced.result _ _ _ _ _ c.in_ok-push_word.ensures
    (adds_after c.push_spaced.result _ _ _ _ _ c.in_ok-push_word-2.ensures c.push_spaced.ensures)
