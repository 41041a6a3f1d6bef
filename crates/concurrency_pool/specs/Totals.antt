-- What holds of every pool and its totals.
use Rattle.std.specs.Prelude.{◌≡◌, ℕ, ◌+◌, ◌^◌, ◌≤◌, length, All}
use Rattle.concurrency_pool.specs.Numbers.{Numbers}
use Rattle.concurrency_pool.specs.Usages.{charged_by}
use Rattle.concurrency_pool.specs.Pools.{reserved_in_all, unreserved_in_flight, in_flight_in_all}

-- The numbers of a pool are in range and each total is the sum of its parts: there are at most 64 functions, the
-- account's limit is at most 1,000,000, the reservations leave the least remainder, and a function has at most 2^32
-- invocations in flight, so that no total overflows.
pub record AreTotals (pool : Numbers) (reserved unreserved in_flight : ℕ) : Type 0 where
  pub few : length pool.functions ≤ 64
  pub limited : pool.account_limit ≤ 1000000
  pub leaves : pool.least_remainder + reserved_in_all pool ≤ pool.account_limit
  pub all_reserved : reserved ≡ reserved_in_all pool
  pub all_unreserved : unreserved ≡ unreserved_in_flight pool
  pub all_in_flight : in_flight ≡ in_flight_in_all pool
  pub counted : All (λ usage. charged_by usage ≤ 2 ^ 32) pool.functions
