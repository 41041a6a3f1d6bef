use Rattle.account_lock.proofs.Written.{sees, none}
use Rattle.account_lock.proofs.account.locked.Locked.token.Goals as goal

pub returns : goal.returns
returns g c =
    sees c.self.invariant.0 c.self.invariant.3 c.facts.ensures.reached c.self.invariant.2 c.token.ensures.all (none _)
