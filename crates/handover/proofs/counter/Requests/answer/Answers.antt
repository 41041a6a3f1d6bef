use Rattle.handover.proofs.Sound.{sound_answered}
use Rattle.handover.proofs.counter.Requests.answer.Goals as goal

pub invariant_of-self : goal.invariant_of-self
invariant_of-self c = rw c.remove.ensures.entries (sound_answered _ _ _ _ c.self.invariant _)
