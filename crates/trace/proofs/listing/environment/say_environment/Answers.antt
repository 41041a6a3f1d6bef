use Rattle.trace.specs.EnvironmentObject.{environment_object}
use Rattle.trace.proofs.Telling.{tells_after, tells_listed}
use Rattle.trace.proofs.listing.environment.say_environment.Goals as goal

pub returns : goal.returns
unfolding environment_object
returns c =
    tells_after _ _ _ _ _ c.say_all.ensures
    (tells_after _ _ _ _ _ (rw (c.bound_of.ensures, c.phase-phase.ensures) at c.say_number_if.ensures)
    (tells_after _ _ _ _ _ (rw c.deadline.ensures at c.say_number_if-2.ensures)
    (tells_after _ _ _ _ _ (rw c.from.ensures at c.say_all-2.ensures)
    (tells_listed _ _ _ _ _ (rw (c.members.ensures, c.extensions.ensures) at c.say_extensions.ensures)
    (tells_after _ _ _ _ _ c.say_all-3.ensures
    (tells_after _ _ _ _ _ (rw c.name_at.ensures at c.say_text.ensures)
    (tells_after _ _ _ _ _ (rw (c.served_by.ensures, c.phase-phase.ensures) at c.say_number_if-3.ensures)
    (tells_after _ _ _ _ _ (rw (c.phase_word.ensures, c.phase-phase.ensures) at c.say_all-4.ensures)
    (tells_after _ _ _ _ _ (rw c.runtime.ensures at c.say_number_if-4.ensures)
    (tells_after _ _ _ _ _ (rw (c.from-2.ensures, c.port_at.ensures) at c.say_all-5.ensures)
    (tells_after _ _ _ _ _ (rw c.phase-phase.ensures at c.say_reason_if.ensures) c.say_all-6.ensures)))))))))))
