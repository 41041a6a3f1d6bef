use Rattle.std.proofs.Common.{◌<◌, ap, arith}
use Rattle.std.proofs.lemmas.Bool.{lt-leb}
use Rattle.concurrency_pool.specs.Pools.{remainder, unreserved_in_flight, throttle}
use Rattle.concurrency_pool.proofs.pool.Pool.may_admit.Goals as goal

-- A function without a reservation is admitted where less is in flight than remains.
pub returns-in_default-2 : goal.returns-in_default-2
unfolding throttle
returns-in_default-2 c =
    let less : unreserved_in_flight c.args.self.now < remainder c.args.self.now = omega (arith, ap unreserved_in_flight c.self.view_is) in
    rw (← c.usage-usage.ensures.value, c.in-None.is, lt-leb _ _ less)
