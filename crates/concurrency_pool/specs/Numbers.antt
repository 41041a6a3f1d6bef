-- A pool as contracts see it.
use Rattle.std.specs.Prelude.{ℕ, List}
use Rattle.concurrency_pool.specs.declared.pool.Usage.{Usage}

-- The account's limit, the least remainder (the part of the limit that no reservation may take), and the functions'
-- usages in the order of their numbers.
pub record Numbers : Type 0 where
  pub account_limit : ℕ
  pub least_remainder : ℕ
  pub functions : List Usage
