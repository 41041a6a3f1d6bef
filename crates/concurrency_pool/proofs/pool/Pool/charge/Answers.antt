use Rattle.std.proofs.Common.{◌<◌, arith}
use Rattle.concurrency_pool.specs.Numbers.{Numbers}
use Rattle.concurrency_pool.specs.Pools.{usage_at}
use Rattle.concurrency_pool.proofs.Leaves.{admitted_below}
use Rattle.concurrency_pool.proofs.pool.Pool.charge.Goals as goal

pub overflow_add-one_more : goal.overflow_add-one_more
overflow_add-one_more c =
    let now : Numbers = c.args.self.now in
    let below : (usage_at now c.args.function).in_flight < now.account_limit = admitted_below now c.args.function c.requires.from_one c.requires.there c.usage-usage.ensures.leaves c.requires.admitted in
    rw c.usage-usage.ensures.value (omega (arith, below, c.usage-usage.ensures.limited))

pub returns : goal.returns
returns c = rw (c.put.ensures, c.usage-usage.ensures.value)
