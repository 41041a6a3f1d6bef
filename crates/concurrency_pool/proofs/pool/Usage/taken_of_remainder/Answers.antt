use Rattle.concurrency_pool.proofs.pool.Usage.taken_of_remainder.Goals as goal

pub returns-then-is_none : goal.returns-then-is_none
returns-then-is_none c = rw c.if-is_none.ensures
