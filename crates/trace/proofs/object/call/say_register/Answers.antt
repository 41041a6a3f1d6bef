use Rattle.trace.proofs.Telling.{tells_after}
use Rattle.trace.proofs.object.call.say_register.Goals as goal

pub returns : goal.returns
returns c =
    tells_after _ _ _ _ _ (rw c.from.ensures at c.say_all.ensures)
    (tells_after _ _ _ _ _ (rw c.as_str.ensures at c.say_text.ensures) c.say_all-2.ensures)
