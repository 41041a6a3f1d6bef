use Rattle.std.proofs.Common.{refl}
use Rattle.handover.proofs.Sound.{put_last, sound_with}
use Rattle.handover.proofs.counter.Requests.put.Goals as goal

pub invariant_of-self-2 : goal.invariant_of-self-2
invariant_of-self-2 c =
    let sum = rw (c.bytes.ensures, ← c.self.view_is) at c.in_ok-bytes.ensures.sum in
    rw (c.in_ok-insert.ensures.entries, put_last _ _ _ _ c.self.invariant c.args.request)
    (sound_with _ _ _ _ c.self.invariant c.args.request _ sum)

pub returns-clause-waits : goal.returns-clause-waits
returns-clause-waits c =
    rw (c.in_ok-insert.ensures.entries, put_last _ _ _ _ c.self.invariant c.args.request, ← c.self.view_is) refl
