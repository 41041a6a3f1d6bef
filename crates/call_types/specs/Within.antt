-- The calls that are within the limits of the service.
use Rattle.std.specs.Prelude.{◌≡◌, ◌≤◌, ℕ, Bool, true, nat_le, List, length, Option, Some, None}
use Rattle.arn_ids.specs.Words.{is_word, is_printable, is_label}
use Rattle.arn_ids.specs.Limits.{longest_body, longest_trace}
use Rattle.arn_ids.specs.Limits.{greatest_moment, greatest_count, greatest_ticket, greatest_reservation}
use Rattle.arn_ids.specs.Environments.{owners}
use Rattle.arn_ids.specs.declared.config.Config.{Config}
use Rattle.call_types.specs.declared.call.Call.{Call}
use Rattle.call_types.specs.declared.call.Call.TheVariants.{Invoke, RuntimeNext, Response, ResponseTooLarge, Failure}
use Rattle.call_types.specs.declared.call.Call.TheVariants.{InitFailure, Register, ExtNext, ExtInitFailure}
use Rattle.call_types.specs.declared.call.Call.TheVariants.{ExtExitFailure, Tick, Withdraw, Spindown, Stop}
use Rattle.call_types.specs.declared.call.Call.TheVariants.{Expire, Reserve}

-- Whether a payload, an output or a report has at most 6,291,456 bytes (Lambda quotas: invocation payload).
abbrev pub is_body : List ℕ → Bool
is_body body = nat_le (length body) longest_body

-- Whether a trace has 1 to 256 characters, all printable.
abbrev pub is_trace : List ℕ → Bool
is_trace = is_word is_printable longest_trace

-- The number of an environment of the configuration, from 1.
abbrev pub IsEnv : Config → ℕ → Type 0
IsEnv config e = (1 ≤ e) × (e ≤ length (owners config))

-- The number of a function of the configuration, from 1.
abbrev pub IsFunction : Config → ℕ → Type 0
IsFunction config f = (1 ≤ f) × (f ≤ length config.functions)

-- A count that fits into an identifier.
abbrev pub IsCount : ℕ → Type 0
IsCount n = n ≤ greatest_count

-- No trace, or one of 1 to 256 printable characters.
abbrev pub IsTrace : Option (List ℕ) → Type 0
IsTrace None = Unit {0}
IsTrace (Some trace) = is_trace trace ≡ true

-- No reservation, or one below 2^32.
abbrev pub IsReservation : Option ℕ → Type 0
IsReservation None = Unit {0}
IsReservation (Some count) = count ≤ greatest_reservation

-- A call that a client, an operator or the clock can make: its numbers are those of the configuration, and its texts
-- have the permitted lengths. An expiry is not one, since the service itself makes it.
abbrev pub IsWithin : Config → Call → Type 0
IsWithin config (Invoke f qualified trace body) = IsFunction config f × IsTrace trace × (is_body body ≡ true)
IsWithin config (RuntimeNext e) = IsEnv config e
IsWithin config (Response e id body) = IsEnv config e × IsCount id × (is_body body ≡ true)
IsWithin config (ResponseTooLarge e id) = IsEnv config e × IsCount id
IsWithin config (Failure e id body) = IsEnv config e × IsCount id × (is_body body ≡ true)
IsWithin config (InitFailure e body) = IsEnv config e × (is_body body ≡ true)
IsWithin config (Register e name invoke shutdown account) = IsEnv config e × (is_label name ≡ true)
IsWithin config (ExtNext e x) = IsEnv config e × IsCount x
IsWithin config (ExtInitFailure e x body) = IsEnv config e × IsCount x × (is_body body ≡ true)
IsWithin config (ExtExitFailure e x body) = IsEnv config e × IsCount x × (is_body body ≡ true)
IsWithin config Tick = Unit {0}
IsWithin config (Withdraw t) = t ≤ greatest_ticket
IsWithin config (Spindown e) = IsEnv config e
IsWithin config Stop = Unit {0}
IsWithin config (Expire e) = ⊥
IsWithin config (Reserve f count) = IsFunction config f × IsReservation count

-- A call within the limits, at a moment that it can have.
abbrev pub IsTimed : Config → ℕ × Call → Type 0
IsTimed config timed = (timed.0 ≤ greatest_moment) × IsWithin config timed.1
