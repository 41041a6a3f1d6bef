-- Which invocations are charged, the limits on them, the verdict on an Invoke, and where an Invoke is placed.
-- (Lambda Developer Guide, "Understanding Lambda function scaling", "Configuring reserved concurrency")
use Rattle.std.specs.Prelude.{ℕ, ◌-◌, Bool, true, false, ◌&&◌, ◌||◌, if◌then◌else◌, ◌==◌, nat_le, List, [], ◌∷◌, length}
use Rattle.std.specs.Prelude.{Option, Some, None, count_by, is_some, is_none, sum_by}
use Rattle.std.specs.List.{find}
use Rattle.call_types.specs.declared.call.Call.{Call}
use Rattle.call_types.specs.declared.call.Call.TheVariants.{Invoke, Reserve}
use Rattle.call_types.specs.declared.call.Entry.{Entry}
use Rattle.call_types.specs.declared.answer.Answer.{Answer}
use Rattle.call_types.specs.declared.answer.Answer.TheVariants.{Reserved, Unreserved}
use Rattle.call_types.specs.declared.answer.Throttle.{Throttle}
use Rattle.call_types.specs.declared.answer.Throttle.TheVariants.{Function as ByFunction, Account as ByAccount}
use Rattle.call_types.specs.declared.answer.Throttle.TheVariants.{Environments as ByEnvironments}
use Rattle.call_types.specs.declared.answer.Phase.{Phase}
use Rattle.call_types.specs.declared.answer.Phase.TheVariants.{Starting, Busy, Closing}
use Rattle.arn_ids.specs.declared.config.Config.{Config}
use Rattle.arn_ids.specs.Environments.{function_numbers, environments, function_of, function_at}
use Rattle.call_model.specs.History.{place_of, answer_in, pending, stopped, with_tickets, is_invoke_of, or_else}
use Rattle.call_model.specs.Life.{phase}
use Rattle.call_model.specs.Stand.{is_idle}

-- Whether an environment in this phase is Busy with the invocation that has ticket t.
abbrev pub is_busy_with : Phase → ℕ → Bool
is_busy_with (Busy p d) t = p == t
is_busy_with _ t = false

-- Whether the environment of a place is Busy with the invocation that has ticket t; false if there is no place.
abbrev pub busy_at : Config → List Entry → Option ℕ → ℕ → Bool
busy_at config h None t = false
busy_at config h (Some e) t = is_busy_with (phase config h e) t

-- Whether an invocation with this ticket and place is charged: from its admission until its Busy ends, even if it was
-- answered and its extensions still work, or until it is answered without having been delivered.
abbrev pub is_charged_at : Config → List Entry → ℕ → Option ℕ → Bool
is_charged_at config h t place = is_some place && (pending h t || busy_at config h place t)

-- Whether the invocation with ticket t is charged.
abbrev pub is_charged : Config → List Entry → ℕ → Bool
is_charged config h t = is_charged_at config h t (place_of h t)

-- The number of invocations of a function that are in flight: its charged Invokes.
-- (concurrency: the requests that it is serving)
unfoldable pub in_flight : Config → List Entry → ℕ → ℕ
in_flight config h f =
    count_by (λ taken. is_invoke_of f taken.1.call && is_charged_at config h taken.0 taken.1.place) (with_tickets h)

-- Whether a call sets or removes the reservation of function f.
-- (Lambda API: PutFunctionConcurrency, DeleteFunctionConcurrency)
abbrev pub reserves : ℕ → Call → Bool
reserves f (Reserve g count) = g == f
reserves f _ = false

-- The reservation after such a call, given the call's answer and the reservation before. A call that does not succeed
-- changes nothing.
abbrev pub reserved_by : Option Answer → Option ℕ → Option ℕ
reserved_by (Some (Reserved count)) before = Some count
reserved_by (Some Unreserved) before = None
reserved_by _ before = before

-- The reservation of a function that is in force, if there is one: what the last successful Reserve set or removed, or
-- the configuration's if there was no such Reserve. (reserved concurrency)
unfoldable pub reservation : Config → List Entry → ℕ → Option ℕ
reservation config [] f = (function_at config f).reserved
reservation config (entry ∷ h) f =
    if reserves f entry.call
    then reserved_by (answer_in entry.answers (length h)) (reservation config h f)
    else reservation config h f

-- The value of an optional number, or 0 if there is none.
abbrev pub or_zero : Option ℕ → ℕ
or_zero None = 0
or_zero (Some n) = n

-- The sum of all reservations in force.
abbrev pub reserved_in_all : Config → List Entry → ℕ
reserved_in_all config h = sum_by (λ f. or_zero (reservation config h f)) (function_numbers config)

-- The remainder: what the reservations leave of the account's limit. (unreserved account concurrency)
abbrev pub remainder : Config → List Entry → ℕ
remainder config h = config.account_limit - reserved_in_all config h

-- The number of invocations in flight of the functions without a reservation, all together.
abbrev pub unreserved_in_flight : Config → List Entry → ℕ
unreserved_in_flight config h =
    sum_by (λ f. if is_none (reservation config h f) then in_flight config h f else 0) (function_numbers config)

-- Whether an environment in this phase is Starting and has no invocation bound.
abbrev pub is_free_starting : Phase → Bool
is_free_starting (Starting d None) = true
is_free_starting _ = false

-- Whether an environment in this phase is Closing and has no invocation bound.
abbrev pub is_free_closing : Phase → Bool
is_free_closing (Closing reason until None) = true
is_free_closing _ = false

-- The lowest-numbered environment of a function whose phase passes a test, if there is one.
abbrev pub lowest : Config → List Entry → ℕ → (Phase → Bool) → Option ℕ
lowest config h f passes = find (λ e. (function_of config e == f) && passes (phase config h e)) (environments config)

-- The environment for the next invocation of a function: its lowest-numbered Idle one; if it has none, the
-- lowest-numbered Starting one without a bound invocation; if it has none either, the lowest-numbered such Closing one.
-- `None` if all are taken.
unfoldable pub place : Config → List Entry → ℕ → Option ℕ
place config h f =
    or_else (lowest config h f is_idle)
    (or_else (lowest config h f is_free_starting) (lowest config h f is_free_closing))

-- The verdict on an Invoke: the service is stopped, a limit refuses the Invoke, or an environment takes it.
pub data Verdict : Type 0 where
  AfterStop : Verdict
  Refuses : Throttle → Verdict
  Admits : ℕ → Verdict

-- The verdict on an Invoke that is within the limits: it goes to a free environment, or is refused if no environment is
-- free.
abbrev pub where_placed : Option ℕ → Verdict
where_placed None = Refuses ByEnvironments
where_placed (Some e) = Admits e

-- The verdict on an Invoke by its limits, given the function's reservation. A function with a reservation is limited by
-- this reservation alone; the functions without one are limited together, by the remainder.
abbrev pub by_limits : Config → List Entry → ℕ → Option ℕ → Verdict
by_limits config h f (Some limit) =
    if nat_le limit (in_flight config h f) then Refuses ByFunction else where_placed (place config h f)
by_limits config h f None =
    if nat_le (remainder config h) (unreserved_in_flight config h)
    then Refuses ByAccount
    else where_placed (place config h f)

-- The verdict on an Invoke of a function. After a Stop, no Invoke is admitted. (Invoke: TooManyRequestsException)
unfoldable pub verdict : Config → List Entry → ℕ → Verdict
verdict config h f = if stopped h then AfterStop else by_limits config h f (reservation config h f)

-- The environment to which a verdict admits an Invoke; `None` if it does not admit it.
abbrev pub admitted_to : Verdict → Option ℕ
admitted_to (Admits e) = Some e
admitted_to _ = None

-- The place of a call: the environment where an admitted Invoke goes; `None` for any other call.
abbrev pub place_for : Config → List Entry → Call → Option ℕ
place_for config h (Invoke f qualified trace body) = admitted_to (verdict config h f)
place_for config h _ = None
