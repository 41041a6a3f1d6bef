use Rattle.script.proofs.WritingLemmas.{adds_one}
use Rattle.script.proofs.words.push_last.Goals as goal

pub returns : goal.returns
returns g c = adds_one c.push_spaced.result _ _ _ c.push_spaced.ensures
