-- The numbers of a pool are those of a history.
use Rattle.std.proofs.Common.{◌≡◌, ℕ, ◌+◌, ◌-◌, ◌≤◌, Bool, true, false, not, ◌&&◌, ◌||◌, List, [], length, Option, Some}
use Rattle.std.proofs.Common.{None, sym, refl, ap, arith, nat_le, nat_lt, if◌then◌else◌}
use Rattle.std.proofs.lemmas.Bool.Decides.{nat_tests}
use Rattle.arn_ids.specs.declared.config.Config.{Config}
use Rattle.arn_ids.specs.Environments.{function_at, function_numbers, no_function}
use Rattle.call_model.specs.Answers.{reserve_answer}
use Rattle.call_types.specs.declared.answer.Answer.TheVariants.{Refused, Reserved}
use Rattle.call_types.specs.declared.answer.Rejection.TheVariants.{BadReservation}
use Rattle.call_types.specs.declared.answer.Throttle.TheVariants.{Function as ByFunction, Account as ByAccount}
use Rattle.call_types.specs.declared.call.Entry.{Entry}
use Rattle.call_model.specs.Counts.{all_in_flight}
use Rattle.call_model.specs.Limits as model
use Rattle.call_model.specs.Limits.{in_flight, reservation, place, by_limits, Refuses, where_placed, or_zero}
use Rattle.concurrency_pool.specs.declared.pool.Usage.{Usage}
use Rattle.concurrency_pool.specs.Numbers.{Numbers}
use Rattle.concurrency_pool.specs.Usages.{no_usage, usage_of, reserved_by, unreserved_by, charged_by}
use Rattle.concurrency_pool.specs.Pools.{opened, usage_at, reserved_in_all, remainder, unreserved_in_flight}
use Rattle.concurrency_pool.specs.Pools.{in_flight_in_all, throttle, throttle_by, may_reserve}
use Rattle.concurrency_pool.specs.Meets.{usage, numbers, by_throttle, by_reserve}
use Rattle.concurrency_pool.proofs.Numbered.{numbered_is, sum_map, map_by_number}

pub opened_is : (config : Config) → opened config ≡ numbers config []
unfolding reservation in_flight
opened_is config =
    ap
    (λ (functions : List Usage). let pool : Numbers = record { account_limit = config.account_limit; least_remainder = config.least_remainder; functions = functions } in pool)
    (sym (map_by_number no_function usage_of config.functions))

pub usage_is : (config : Config) (h : List Entry) (f : ℕ) → 1 ≤ f → f ≤ length config.functions → usage_at (numbers config h) f ≡ usage config h f
usage_is config h f from_one there = numbered_is no_usage (usage config h) (length config.functions) f from_one there

reserved_is : (config : Config) (h : List Entry) → reserved_in_all (numbers config h) ≡ model.reserved_in_all config h
reserved_is config h = sum_map reserved_by (usage config h) (function_numbers config)

pub remainder_is : (config : Config) (h : List Entry) → remainder (numbers config h) ≡ model.remainder config h
remainder_is config h = ap (λ n. config.account_limit - n) (reserved_is config h)

pub unreserved_is : (config : Config) (h : List Entry) → unreserved_in_flight (numbers config h) ≡ model.unreserved_in_flight config h
unreserved_is config h = sum_map unreserved_by (usage config h) (function_numbers config)

pub in_flight_is : (config : Config) (h : List Entry) → in_flight_in_all (numbers config h) ≡ all_in_flight config h
in_flight_is config h = sum_map charged_by (usage config h) (function_numbers config)

pub verdict_is : (config : Config) (h : List Entry) (f : ℕ) → 1 ≤ f → f ≤ length config.functions
    → by_limits config h f (reservation config h f) ≡ by_throttle (throttle (numbers config h) f) (place config h f)
unfolding throttle
verdict_is config h f from_one there = rw (usage_is config h f from_one there) (go (reservation config h f))
  where
    function : (b : Bool)
        → (if b then Refuses ByFunction else where_placed (place config h f)) ≡ by_throttle (if b then Some ByFunction else None) (place config h f)
    function true = refl
    function false = refl

    account : (b : Bool)
        → (if b then Refuses ByAccount else where_placed (place config h f)) ≡ by_throttle (if b then Some ByAccount else None) (place config h f)
    account true = refl
    account false = refl

    go : (o : Option ℕ) → by_limits config h f o ≡ by_throttle (throttle_by (numbers config h) o (in_flight config h f)) (place config h f)
    go (Some limit) = function (nat_le limit (in_flight config h f))
    go None = rw (remainder_is config h, unreserved_is config h) (account (nat_le (model.remainder config h) (model.unreserved_in_flight config h)))

pub reserve_is : (config : Config) (h : List Entry) (f : ℕ) (count : Option ℕ) → 1 ≤ f → f ≤ length config.functions
    → reserve_answer config h f count ≡ by_reserve (may_reserve (numbers config h) f count) count
unfolding may_reserve
reserve_is config h f None from_one there = refl
reserve_is config h f (Some count) from_one there =
    rw (usage_is config h f from_one there, reserved_is config h)
    (tests (length (function_at config f).slots) count config.account_limit (((model.reserved_in_all config h - or_zero (reservation config h f)) + count) + config.least_remainder))
  where
    decided : (b c : Bool) → (if not b || not c then Refused BadReservation else Reserved count) ≡ by_reserve (b && c) (Some count)
    decided true true = refl
    decided true false = refl
    decided false c = refl

    not_more : (m n : ℕ) → nat_lt m n ≡ not (nat_le n m)
    not_more m n = grind (arith, nat_tests)

    tests : (slots n limit total : ℕ)
        → (if nat_lt slots n || nat_lt limit total then Refused BadReservation else Reserved count) ≡ by_reserve (nat_le n slots && nat_le total limit) (Some count)
    tests slots n limit total = rw (not_more slots n, not_more limit total) (decided (nat_le n slots) (nat_le total limit))
