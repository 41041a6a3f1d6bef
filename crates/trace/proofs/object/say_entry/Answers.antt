use Rattle.trace.specs.Object.{moved, released, told}
use Rattle.trace.specs.Sites.{turn_of}
use Rattle.trace.proofs.Telling.{flat_mapped, tells_after, tells_listed, tells_same}
use Rattle.trace.proofs.object.say_entry.Goals as goal

pub returns : goal.returns
unfolding told
returns c =
    tells_after _ _ _ _ _ c.say_all.ensures
    (tells_listed _ _ _ _ _ (rw c.as_slice.ensures at c.say_answers.ensures)
    (tells_after _ _ _ _ _ c.say_all-2.ensures
    (tells_after _ _ _ _ _ c.say_call.ensures
    (tells_after _ _ _ _ _ (rw c.charged_at.ensures at c.say_number_if.ensures)
    (tells_after _ _ _ _ _ (rw c.expired.ensures at c.say_number_if-2.ensures)
    (tells_after _ _ _ _ _ c.say_all-3.ensures
    (tells_listed _ _ _ _ _ (tells_same _ _ _ _ (flat_mapped moved turn_of c.args.sites.now) c.say_phases.ensures)
    (tells_after _ _ _ _ _ c.say_all-4.ensures
    (tells_after _ _ _ _ _ (rw c.widened.ensures at c.say_number_if-3.ensures)
    (tells_after _ _ _ _ _ c.say_all-5.ensures
    (tells_listed _ _ _ _ _ (tells_same _ _ _ _ (flat_mapped released turn_of c.args.sites.now) c.say_all_released.ensures)
    (tells_after _ _ _ _ _ c.say_all-6.ensures
    (tells_after _ _ _ _ _ c.say_request_if.ensures c.say_all-7.ensures)))))))))))))
