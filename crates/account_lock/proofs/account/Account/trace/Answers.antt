use Rattle.account_lock.proofs.Trailing.{written}
use Rattle.account_lock.proofs.account.Account.trace.Goals as goal

pub returns-clause-line : goal.returns-clause-line
returns-clause-line g c =
    written g.S.Identity.config g.S.Identity.salt c.args.bodies c.args.trail.now.next _ c.in-Some.object _ _ c.in-Some.is c.in_ok-line.ensures c.in_ok-object.ensures.object
