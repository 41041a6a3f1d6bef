-- The limits on a function's invocations, from the numbers of a pool (Lambda Developer Guide, "Understanding Lambda
-- function scaling", "Configuring reserved concurrency for a function").
use Rattle.std.specs.Prelude.{ℕ, ◌+◌, ◌-◌, Bool, true, ◌&&◌, if◌then◌else◌, nat_le, map, slice_set, sum_by, Option}
use Rattle.std.specs.Prelude.{Some, None}
use Rattle.arn_ids.specs.declared.config.Config.{Config}
use Rattle.arn_ids.specs.Environments.{numbered}
use Rattle.call_types.specs.declared.answer.Throttle.{Throttle}
use Rattle.call_types.specs.declared.answer.Throttle.TheVariants.{Function as ByFunction, Account as ByAccount}
use Rattle.concurrency_pool.specs.declared.pool.Usage.{Usage}
use Rattle.concurrency_pool.specs.Numbers.{Numbers}
use Rattle.concurrency_pool.specs.Usages.{no_usage, usage_of, reserved_by, unreserved_by, charged_by}

-- The pool of a configuration before any invocation.
abbrev pub opened : Config → Numbers
opened config = record {
  account_limit = config.account_limit;
  least_remainder = config.least_remainder;
  functions = map usage_of config.functions;
}

-- The usage of the function with a number.
abbrev pub usage_at : Numbers → ℕ → Usage
usage_at pool f = numbered no_usage pool.functions f

-- The sum of all reservations in force.
abbrev pub reserved_in_all : Numbers → ℕ
reserved_in_all pool = sum_by reserved_by pool.functions

-- The remainder: the part of the account's limit that is not reserved (unreserved account concurrency).
abbrev pub remainder : Numbers → ℕ
remainder pool = pool.account_limit - reserved_in_all pool

-- The number of invocations in flight of the functions without a reservation.
abbrev pub unreserved_in_flight : Numbers → ℕ
unreserved_in_flight pool = sum_by unreserved_by pool.functions

-- The number of invocations in flight of all functions.
abbrev pub in_flight_in_all : Numbers → ℕ
in_flight_in_all pool = sum_by charged_by pool.functions

-- The limit that refuses an invocation of a function with this reservation and this many in flight, if one does.
abbrev pub throttle_by : Numbers → Option ℕ → ℕ → Option Throttle
throttle_by pool (Some limit) in_flight = if nat_le limit in_flight then Some ByFunction else None
throttle_by pool None in_flight = if nat_le (remainder pool) (unreserved_in_flight pool) then Some ByAccount else None

-- The limit that refuses an invocation, if one does: for a reserved function its own reservation alone, for all the
-- others together the remainder.
unfoldable pub throttle : Numbers → ℕ → Option Throttle
throttle pool f = throttle_by pool (usage_at pool f).reserved (usage_at pool f).in_flight

-- What a reservation of this count for function `f` would take of the account's limit, together with all other
-- reservations and the least remainder.
abbrev pub taken_with : Numbers → ℕ → ℕ → ℕ
taken_with pool f count = ((reserved_in_all pool - reserved_by (usage_at pool f)) + count) + pool.least_remainder

-- Whether a reservation is permitted: it is at most the number of the function's environments, and leaves the least
-- remainder to the unreserved functions. A removal always is.
unfoldable pub may_reserve : Numbers → ℕ → Option ℕ → Bool
may_reserve pool f None = true
may_reserve pool f (Some count) =
    nat_le count (usage_at pool f).environments && nat_le (taken_with pool f count) pool.account_limit

-- The pool after this many of a function's invocations are in flight.
abbrev pub with_in_flight : Numbers → ℕ → ℕ → Numbers
with_in_flight pool f n =
    record pool { functions = slice_set pool.functions (f - 1) (record (usage_at pool f) { in_flight = n }) }

-- The pool after this reservation of a function is set, or removed if it is `None`.
abbrev pub with_reserved : Numbers → ℕ → Option ℕ → Numbers
with_reserved pool f count =
    record pool { functions = slice_set pool.functions (f - 1) (record (usage_at pool f) { reserved = count }) }
