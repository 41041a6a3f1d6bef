use Rattle.handover.proofs.Sound.{sound_others}
use Rattle.handover.proofs.counter.Requests.give_up.Goals as goal

pub invariant_of-self : goal.invariant_of-self
invariant_of-self c = rw c.pop.ensures.others (sound_others _ _ _ _ _ c.self.invariant (rw c.pop.ensures.others at c.pop.ensures.held))
