-- Definitions used by the laws of legal histories.
use Rattle.std.specs.Prelude.{ℕ, Bool, true, false, ◌&&◌, ◌||◌, if◌then◌else◌, ◌+◌, ◌==◌, nat_lt, nat_eq, List}
use Rattle.std.specs.Prelude.{[], ◌∷◌, Option, Some, None, count_by, filter_map, is_some}
use Rattle.std.specs.List.{list_any, list_all}
use Rattle.call_types.specs.declared.call.Call.{Call}
use Rattle.call_types.specs.declared.call.Call.TheVariants.{Reserve}
use Rattle.call_types.specs.declared.call.Entry.{Entry}
use Rattle.call_types.specs.declared.answer.Answer.{Answer}
use Rattle.call_types.specs.declared.answer.Answer.TheVariants.{Delivered, Output, OutputTooLarge, TimedOut}
use Rattle.call_types.specs.declared.answer.Phase.{Phase}
use Rattle.call_types.specs.declared.answer.Phase.TheVariants.{Starting, Idle, Busy}
use Rattle.arn_ids.specs.declared.config.Config.{Config}
use Rattle.arn_ids.specs.Environments.{environments}
use Rattle.call_model.specs.History.{with_tickets, is_invoke_of, pending}
use Rattle.call_model.specs.Life.{phase}
use Rattle.call_model.specs.Stand.{at_hand, is_number}
use Rattle.call_model.specs.Limits.{is_charged_at}
use Rattle.call_model.specs.Next.{deadline_of, has_come, with_number}

-- The number of charged invocations that are placed in environment e.
abbrev pub charged_in : Config → List Entry → ℕ → ℕ
charged_in config h e =
    count_by (λ taken. is_number taken.1.place e && is_charged_at config h taken.0 taken.1.place) (with_tickets h)

-- Whether an environment in this phase is taken: it is Busy, or an invocation is bound to it.
abbrev pub is_taken : Phase → Bool
is_taken phase = is_some (at_hand phase)

-- The invocation that was at hand before, if it is not at hand any more.
abbrev pub no_longer : Option ℕ → Option ℕ → Option ℕ
no_longer None after = None
no_longer (Some p) after = if is_number after p then None else Some p

-- The invocation whose charge an entry ends, given the phases before and after the entry: it was at hand before, and is
-- not at hand after.
abbrev pub ended_by : Phase → Phase → Option ℕ
ended_by before after = no_longer (at_hand before) (at_hand after)

-- Whether an entry admits an Invoke of function f.
abbrev pub admits : ℕ → Entry → Bool
admits f entry = is_invoke_of f entry.call && is_some entry.place

-- Whether a call is a Reserve, which sets or removes a reservation.
abbrev pub is_reserve : Call → Bool
is_reserve (Reserve f count) = true
is_reserve _ = false

-- Whether a history has a Reserve.
abbrev pub re_reserved : List Entry → Bool
re_reserved h = list_any (λ entry. is_reserve entry.call) h

-- Whether an answer delivers the invocation with ticket p.
abbrev pub delivers : ℕ → Answer → Bool
delivers p (Delivered q deadline) = q == p
delivers p _ = false

-- The number of answers in a history that deliver the invocation with ticket p.
abbrev pub deliveries : List Entry → ℕ → ℕ
deliveries [] p = 0
deliveries (entry ∷ h) p = count_by (λ a. delivers p a.1) entry.answers + deliveries h p

-- Whether an answer is one that only a delivered invocation gets: an output, the error that it was too large, or a
-- timeout.
abbrev pub is_outcome : Answer → Bool
is_outcome (Output source) = true
is_outcome OutputTooLarge = true
is_outcome TimedOut = true
is_outcome _ = false

-- Whether a phase is one in which a Next may be parked: Starting, Idle or Busy.
abbrev pub is_open : Phase → Bool
is_open (Starting deadline bound) = true
is_open Idle = true
is_open (Busy p deadline) = true
is_open _ = false

-- Whether the invocation with ticket p lives in environment e: it waits for its answer, and is bound to e or served by
-- e.
abbrev pub lives : Config → List Entry → ℕ → ℕ → Bool
lives config h p e = pending h p && is_number (at_hand (phase config h e)) p

-- The number of answers that a history has for ticket t.
abbrev pub times : List Entry → ℕ → ℕ
times [] t = 0
times (entry ∷ h) t = count_by (λ a. a.0 == t) entry.answers + times h t

-- Whether environment e is due at moment m: the configuration has it, and its phase has a deadline that has come.
abbrev pub is_due : Config → List Entry → ℕ → ℕ → Bool
is_due config h m e = list_any (λ d. e == d) (environments config) && has_come m (deadline_of (phase config h e))

-- The deadlines of a list of environments, each with its environment's number. Those without a deadline are left out.
abbrev pub deadlines_of : Config → List Entry → List ℕ → List (ℕ × ℕ)
deadlines_of config h es = filter_map (λ e. with_number e (deadline_of (phase config h e))) es

-- Whether one pair (deadline, environment) comes before another: its deadline is earlier, or the deadlines are equal
-- and its environment has the lower number.
abbrev pub comes_before : ℕ × ℕ → ℕ × ℕ → Bool
comes_before a b = nat_lt a.0 b.0 || (nat_eq a.0 b.0 && nat_lt a.1 b.1)

-- Whether the pairs of a list are in this order: each comes before all pairs after it.
abbrev pub are_in_order : List (ℕ × ℕ) → Bool
are_in_order [] = true
are_in_order (a ∷ rest) = list_all (comes_before a) rest && are_in_order rest
