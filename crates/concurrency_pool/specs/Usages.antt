-- The limits of one function, and the number of its invocations in flight.
use Rattle.std.specs.Prelude.{ℕ, if◌then◌else◌, is_none, length, None}
use Rattle.arn_ids.specs.declared.config.Function.{Function}
use Rattle.call_model.specs.Limits.{or_zero}
use Rattle.concurrency_pool.specs.declared.pool.Usage.{Usage}

-- The usage of a function that does not exist.
abbrev pub no_usage : Usage
no_usage = record { environments = 0; reserved = None; in_flight = 0 }

-- A function as configured, with nothing in flight.
abbrev pub usage_of : Function → Usage
usage_of function = record { environments = length function.slots; reserved = function.reserved; in_flight = 0 }

-- How much of the account's limit a function's reservation takes; 0 without a reservation.
abbrev pub reserved_by : Usage → ℕ
reserved_by usage = or_zero usage.reserved

-- How much of the remainder a function uses: its invocations in flight, or 0 if it has a reservation.
abbrev pub unreserved_by : Usage → ℕ
unreserved_by usage = if is_none usage.reserved then usage.in_flight else 0

-- The number of a function's invocations in flight.
abbrev pub charged_by : Usage → ℕ
charged_by usage = usage.in_flight
