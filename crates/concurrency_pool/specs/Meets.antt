-- What the numbers of a pool are after a history.
use Rattle.std.specs.Prelude.{ℕ, Bool, true, false, List, length, map, Option, Some, None}
use Rattle.arn_ids.specs.declared.config.Config.{Config}
use Rattle.arn_ids.specs.Environments.{function_at, function_numbers}
use Rattle.call_types.specs.declared.answer.Answer.{Answer}
use Rattle.call_types.specs.declared.answer.Answer.TheVariants.{Refused, Reserved, Unreserved}
use Rattle.call_types.specs.declared.answer.Rejection.TheVariants.{BadReservation}
use Rattle.call_types.specs.declared.answer.Throttle.{Throttle}
use Rattle.call_types.specs.declared.call.Entry.{Entry}
use Rattle.call_model.specs.Limits.{in_flight, reservation, Verdict, Refuses, where_placed}
use Rattle.concurrency_pool.specs.declared.pool.Usage.{Usage}
use Rattle.concurrency_pool.specs.Numbers.{Numbers}

-- The limits of a function after a history, and the number of its invocations in flight.
abbrev pub usage : Config → List Entry → ℕ → Usage
usage config h f = record {
  environments = length (function_at config f).slots;
  reserved = reservation config h f;
  in_flight = in_flight config h f;
}

-- The limits of the account after a history, with the usage of each function.
abbrev pub numbers : Config → List Entry → Numbers
numbers config h = record {
  account_limit = config.account_limit;
  least_remainder = config.least_remainder;
  functions = map (usage config h) (function_numbers config);
}

-- The verdict on an Invoke: refused for the reason, if a limit refuses it; otherwise decided by the place that it
-- found, if any.
abbrev pub by_throttle : Option Throttle → Option ℕ → Verdict
by_throttle (Some reason) place = Refuses reason
by_throttle None place = where_placed place

-- The answer to a Reserve, by whether it is allowed: refused, or the reservation set or removed.
abbrev pub by_reserve : Bool → Option ℕ → Answer
by_reserve false count = Refused BadReservation
by_reserve true None = Unreserved
by_reserve true (Some count) = Reserved count
