use Rattle.script.proofs.WritingLemmas.{adds_two}
use Rattle.script.proofs.words.push_named.Goals as goal

pub returns : goal.returns
returns g c = adds_two c.push_spaced-2.result _ _ _ _ _ c.in_ok-push_spaced.ensures c.push_spaced-2.ensures
