use Rattle.handover.proofs.Sound.{sound_removed, sound_answered}
use Rattle.handover.proofs.counter.Requests.requester_ended.Goals as goal

pub invariant_of-self : goal.invariant_of-self
invariant_of-self c =
    let held = rw c.remove.ensures.others at c.remove.ensures.held in
    rw (c.remove.ensures.others, c.remove-2.ensures.entries)
    (sound_answered _ _ _ _ (sound_removed _ _ _ _ c.self.invariant _ _ held) _)
