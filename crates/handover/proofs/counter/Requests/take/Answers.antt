use Rattle.std.proofs.Common.{refl}
use Rattle.handover.proofs.Sound.{taken_last, sound_taken}
use Rattle.handover.proofs.counter.Requests.take.Goals as goal

pub invariant_of-self-2 : goal.invariant_of-self-2
invariant_of-self-2 c =
    rw
    (c.pop.ensures.others, c.in_ok-insert.ensures.entries, taken_last _ _ _ _ c.args.handler _ _ c.in-Some.ensures.first c.self.invariant)
    (sound_taken _ _ _ _ c.args.handler _ c.self.invariant (rw c.pop.ensures.others at c.pop.ensures.held))

pub returns-clause-state : goal.returns-clause-state
returns-clause-state c =
    rw
    (c.pop.ensures.others, c.in_ok-insert.ensures.entries, taken_last _ _ _ _ c.args.handler _ _ c.in-Some.ensures.first c.self.invariant, ← c.self.view_is) refl
