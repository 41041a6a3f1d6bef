use Rattle.std.proofs.Common.{◌∙◌, refl}
use Rattle.concurrency_pool.proofs.History as pool
use Rattle.deadlines.proofs.Order as due
use Rattle.placement.proofs.Lowest as placement
use Rattle.account_book.proofs.BeforeCalls.{fleet_opened}
use Rattle.account_book.proofs.crew.Fleet.open.Goals as goal

pub returns : goal.returns
returns c = rw (c.in_ok-open_sites.ensures, c.in_ok-open-3.ensures, pool.opened_is c.args.config.now) refl

pub invariant_of-result : goal.invariant_of-result
invariant_of-result c =
    fleet_opened _ c.args.config.now c.requires c.in_ok-open_sites.ensures
    (c.in_ok-open.ensures ∙ rw c.environments.ensures (due.opened_is c.args.config.now))
    (c.in_ok-open-2.ensures ∙ placement.opened_is c.args.config.now)
    (c.in_ok-open-3.ensures ∙ pool.opened_is c.args.config.now) refl
