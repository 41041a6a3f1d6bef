use Rattle.trace.specs.EnvironmentObject.{extension_object}
use Rattle.trace.proofs.Telling.{tells_after, tells_listed}
use Rattle.trace.proofs.listing.environment.say_extension.Goals as goal

pub returns : goal.returns
unfolding extension_object
returns c =
    tells_after _ _ _ _ _ c.say_all.ensures
    (tells_listed _ _ _ _ _ c.say_events.ensures
    (tells_after _ _ _ _ _ (rw (c.identifier.ensures, c.count.ensures) at c.say_all-2.ensures)
    (tells_after _ _ _ _ _ (rw c.name.ensures at c.say_text.ensures)
    (tells_after _ _ _ _ _ (rw c.parked.ensures at c.say_number_if.ensures) c.say_all-3.ensures))))
