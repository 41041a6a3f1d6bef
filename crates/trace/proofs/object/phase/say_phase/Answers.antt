use Rattle.trace.specs.PhaseObject.{phase_object}
use Rattle.trace.proofs.Telling.{tells_after}
use Rattle.trace.proofs.object.phase.say_phase.Goals as goal

pub returns : goal.returns
unfolding phase_object
returns c =
    tells_after _ _ _ _ _ c.say_all.ensures
    (tells_after _ _ _ _ _ (rw (c.bound_of.ensures, c.phase-phase.ensures) at c.say_number_if.ensures)
    (tells_after _ _ _ _ _ (rw c.deadline.ensures at c.say_number_if-2.ensures)
    (tells_after _ _ _ _ _ (rw c.from.ensures at c.say_all-2.ensures)
    (tells_after _ _ _ _ _ (rw (c.served_by.ensures, c.phase-phase.ensures) at c.say_number_if-3.ensures)
    (tells_after _ _ _ _ _ (rw (c.phase_word.ensures, c.phase-phase.ensures) at c.say_all-3.ensures)
    (tells_after _ _ _ _ _ (rw c.phase-phase.ensures at c.say_reason_if.ensures) c.say_all-4.ensures))))))
