use Rattle.trace.proofs.Telling.{tells_after}
use Rattle.trace.proofs.draft.teller.Teller.say_text.Goals as goal

pub returns : goal.returns
returns c = tells_after _ _ _ _ _ c.say_all.ensures c.say_copied.ensures
