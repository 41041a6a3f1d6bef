use Rattle.trace.proofs.Telling.{tells_after}
use Rattle.trace.proofs.object.call.say_reserve.Goals as goal

pub returns : goal.returns
returns c =
    tells_after _ _ _ _ _ c.say_all.ensures
    (tells_after _ _ _ _ _ (rw c.widened.ensures at c.say_number_if.ensures)
    (tells_after _ _ _ _ _ c.say_text.ensures c.say_all-2.ensures))
