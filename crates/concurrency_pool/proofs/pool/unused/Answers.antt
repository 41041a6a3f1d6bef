use Rattle.concurrency_pool.proofs.pool.unused.Goals as goal

pub returns : goal.returns
returns c = rw c.as_slice.ensures
