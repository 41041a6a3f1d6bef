use Rattle.account_lock.proofs.Trailing.{still}
use Rattle.account_lock.proofs.tracing.trail.Trail.see.Goals as goal

pub invariant_of-self : goal.invariant_of-self
invariant_of-self g c =
    rw c.show.ensures.all
    (still g.S.Identity.config c.self.inside.token c.args.pen.now c.self.inside.next c.self.inside.follower c.show.ensures.longer c.self.invariant)
