use Rattle.trace.proofs.Telling.{tells_after}
use Rattle.trace.proofs.draft.teller.Teller.say_around.Goals as goal

pub returns : goal.returns
returns c = tells_after _ _ _ _ _ c.say_all.ensures (tells_after _ _ _ _ _ c.say_body.ensures c.say_all-2.ensures)
