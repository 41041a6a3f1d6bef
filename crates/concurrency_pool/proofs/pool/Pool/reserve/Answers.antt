use Rattle.concurrency_pool.specs.Pools.{usage_at}
use Rattle.concurrency_pool.specs.Usages.{reserved_by}
use Rattle.concurrency_pool.proofs.Leaves.{allowed_leaves}
use Rattle.concurrency_pool.proofs.pool.Pool.reserve.Goals as goal

pub put-requires-clause-leaves : goal.put-requires-clause-leaves
put-requires-clause-leaves c =
    allowed_leaves c.args.self.now c.args.function c.args.count (reserved_by (usage_at c.args.self.now c.args.function)) c.requires.allowed

pub returns : goal.returns
returns c = rw (c.put.ensures, c.usage-usage.ensures.value)
