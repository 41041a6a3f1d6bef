-- The answers that a call gives: which tickets, its own among them, get an answer, and which answer.
use Rattle.std.specs.Prelude.{ℕ, zero, suc, ◌+◌, ◌-◌, Bool, true, false, ◌||◌, if◌then◌else◌, ◌==◌, nat_lt, List, []}
use Rattle.std.specs.Prelude.{◌∷◌, length, Option, Some, None}
use Rattle.call_types.specs.declared.call.Call.{Call}
use Rattle.call_types.specs.declared.call.Call.TheVariants.{Invoke, Tick, Withdraw, Stop, Reserve}
use Rattle.call_types.specs.declared.call.Entry.{Entry}
use Rattle.call_types.specs.declared.answer.Answer.{Answer}
use Rattle.call_types.specs.declared.answer.Answer.TheVariants.{Told, Ending, Accepted, Done, Throttled, Stopped}
use Rattle.call_types.specs.declared.answer.Answer.TheVariants.{Refused, Reserved, Unreserved}
use Rattle.call_types.specs.declared.answer.Rejection.TheVariants.{BadReservation}
use Rattle.arn_ids.specs.declared.config.Config.{Config}
use Rattle.arn_ids.specs.Environments.{function_at}
use Rattle.call_model.specs.History.{answer_in, stopped, call_of, place_of, or_else}
use Rattle.call_types.specs.Calls.{env_of}
use Rattle.call_model.specs.Table.{own_answer}
use Rattle.call_model.specs.Stand.{role}
use Rattle.call_model.specs.Polls.{by_role, delivered, begun}
use Rattle.call_model.specs.Life.{names, phase, stand, events, events_in}
use Rattle.call_model.specs.Limits.{Verdict, AfterStop, Refuses, Admits, verdict, place_for, reservation, or_zero}
use Rattle.call_model.specs.Limits.{reserved_in_all}

-- The answer that the verdict on an Invoke gives at once: Stopped or Throttled. An admitted Invoke waits.
abbrev pub verdict_answer : Verdict → Option Answer
verdict_answer AfterStop = Some Stopped
verdict_answer (Refuses reason) = Some (Throttled reason)
verdict_answer (Admits e) = None

-- The answer to a Reserve before a Stop. Removing a reservation succeeds. Setting one is refused if it exceeds the
-- number of the function's environments, or if all reservations together would leave less of the account's limit than
-- the least remainder. (PutFunctionConcurrency: at least 100 stay unreserved)
abbrev pub reserve_answer : Config → List Entry → ℕ → Option ℕ → Answer
reserve_answer config h f None = Unreserved
reserve_answer config h f (Some count) =
    if nat_lt (length (function_at config f).slots) count
    || nat_lt config.account_limit
    (((reserved_in_all config h - or_zero (reservation config h f)) + count) + config.least_remainder)
    then Refused BadReservation else Reserved count

-- The answer of the table of phases to a call that names an environment; `None` if the call names no environment.
abbrev pub own_at : Config → List Entry → Call → Option ℕ → Option Answer
own_at config h call None = None
own_at config h call (Some e) = own_answer (stand config h e) call

-- The first answer to the call itself, if it gets one. (What first answers are is explained below.)
unfoldable pub own_first : Config → List Entry → Call → Option Answer
own_first config h (Invoke f qualified trace body) = verdict_answer (verdict config h f)
own_first config h Tick = Some Done
own_first config h (Withdraw t) = Some Done
own_first config h Stop = Some Accepted
own_first config h (Reserve f count) = Some (if stopped h then Stopped else reserve_answer config h f count)
own_first config h call = own_at config h call (env_of call)

-- The environment of a ticket: the one where its Invoke was placed, or otherwise the one that its call names.
abbrev pub home : List Entry → ℕ → Option ℕ
home h t = or_else (place_of h t) (env_of (call_of h t))

-- The first answer that an older ticket t at environment e gets from a call. The last argument says whether the call
-- concerns the environment; if not, the ticket gets none.
abbrev pub answer_at : Config → List Entry → (now e : ℕ) → Call → (t : ℕ) → Bool → Option Answer
answer_at config h now e call t false = None
answer_at config h now e call t true = by_role (length h) now (stand config h e) call t (role (stand config h e) t)

-- The first answer that an older ticket t gets from a call, given the environment of the ticket.
abbrev pub other_answer : Config → List Entry → (now : ℕ) → Call → (t : ℕ) → Option ℕ → Option Answer
other_answer config h now call t None = None
other_answer config h now call t (Some e) = answer_at config h now e call t (names h e call)

-- An entry answers in two parts, with the phase after it between them. Each part depends only on what is to its left:
--
--   stand before ───> first answers ───> phase after ───────────> second answers
--   (Life.stand)      (first_answer)     (Life.phase, of the      (second_answer: if a Busy begins
--         │                 │             entry's first_part)      between the two phases)
--         └─────────────────┴──────────────────┴───────────────────────────┘
--
-- This is not circular: of an entry's answers, the phase after it depends only on the first ones. `first_part`
-- recognizes them by their kind: only a Busy that begins gives a Delivered or a Told (`is_second`). `answers` joins
-- both parts.

-- The first answer that ticket t gets from a call. If t is the call's own ticket, it is the answer to the call itself.
-- If t is older, the waiting call gets what the table has for it, and a parked Next is answered if its environment
-- closes, or if it is replaced or withdrawn.
unfoldable pub first_answer : Config → List Entry → (now : ℕ) → Call → (t : ℕ) → Option Answer
first_answer config h now call t =
    if t == length h then own_first config h call else other_answer config h now call t (home h t)

-- A list of answers with the answer of ticket t in front, if t gets one.
abbrev pub with_answer : ℕ → Option Answer → List (ℕ × Answer) → List (ℕ × Answer)
with_answer t None rest = rest
with_answer t (Some a) rest = (t, a) ∷ rest

-- The answers of the n tickets from t on, in rising ticket order. Tickets that get no answer are left out.
abbrev pub each_from : ℕ → ℕ → (ℕ → Option Answer) → List (ℕ × Answer)
each_from t zero answer = []
each_from t (suc n) answer = with_answer t (answer t) (each_from (suc t) n answer)

-- All first answers of a call, in rising ticket order.
unfoldable pub first_answers : Config → List Entry → ℕ → Call → List (ℕ × Answer)
first_answers config h now call = each_from 0 (suc (length h)) (first_answer config h now call)

-- The entry of a call with its first answers only.
abbrev pub first_entry : Config → List Entry → ℕ → Call → Entry
first_entry config h now call = record {
  moment = now;
  call = call;
  answers = first_answers config h now call;
  place = place_for config h call;
}

-- The second answer that ticket t gets in an entry, given the environment of the ticket.
abbrev pub second_at : Config → List Entry → Entry → ℕ → Option ℕ → Option Answer
second_at config h entry t None = None
second_at config h entry t (Some e) =
    delivered (begun (phase config h e) (phase config (entry ∷ h) e)) (role (stand config (entry ∷ h) e) t)

-- The second answer that ticket t gets in an entry: if a Busy begins at its environment, a parked Next gets the
-- invocation, or the notice of it.
unfoldable pub second_answer : Config → List Entry → Entry → ℕ → Option Answer
second_answer config h entry t = second_at config h entry t (home (entry ∷ h) t)

-- The answer that ticket t gets in an entry: its first answer if it has one, otherwise its second.
unfoldable pub answer_to : Config → List Entry → Entry → ℕ → Option Answer
answer_to config h entry t = or_else (answer_in entry.answers t) (second_answer config h entry t)

-- An event with the number n; any other answer is unchanged.
abbrev pub with_event : ℕ → Answer → Answer
with_event n (Told p d event) = Told p d n
with_event n (Ending reason until event) = Ending reason until n
with_event n a = a

-- An answer with the next event number of its environment, if it is an event: one more than the number of events there
-- in the history and in the entry's answers before it.
abbrev pub event_at : List Entry → Entry → List (ℕ × Answer) → Option ℕ → Answer → Answer
event_at h entry before None a = a
event_at h entry before (Some e) a = with_event (suc (events_in (entry ∷ h) e before + events h e)) a

-- The answers of an entry with their event numbers. The events of an environment are numbered from 1, in the order of
-- entries, and in the order of tickets within an entry.
abbrev pub numbered : List Entry → Entry → List (ℕ × Answer) → List (ℕ × Answer) → List (ℕ × Answer)
numbered h entry before [] = []
numbered h entry before (a ∷ rest) =
    (a.0, event_at h entry before (env_of (call_of (entry ∷ h) a.0)) a.1) ∷ numbered h entry (a ∷ before) rest

-- All answers that a call gives at a moment, in rising ticket order.
unfoldable pub answers : Config → List Entry → ℕ → Call → List (ℕ × Answer)
answers config h now call =
    numbered h (first_entry config h now call) []
    (each_from 0 (suc (length h)) (answer_to config h (first_entry config h now call)))
