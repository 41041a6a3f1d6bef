-- Which configurations and limits a book can have, and which histories.
use Rattle.std.specs.Prelude.{◌≡◌, ◌+◌, ◌^◌, ◌<◌, ℕ, true, false, List, [], ◌∷◌, length, None, All}
use Rattle.arn_ids.specs.Environments.{owners}
use Rattle.arn_ids.specs.Faults.{first_fault, is_between}
use Rattle.arn_ids.specs.declared.config.Config.{Config}
use Rattle.lambda_wire.specs.Ranges.{IsConfigInRange}
use Rattle.call_types.specs.declared.call.Call.{Call}
use Rattle.call_types.specs.declared.call.Entry.{Entry}
use Rattle.call_model.specs.Counts.{full}
use Rattle.call_model.specs.Next.{next}
use Rattle.call_types.specs.Calls.{body_of}
use Rattle.call_types.specs.Within.{IsTimed}

-- A configuration, a salt and a maximum number of entries that a book can have: the configuration has no fault, the
-- salt is below 2^64, and the maximum is above the number of environments and at most 2^32.
pub record IsBooked (config : Config) (salt max_entries : ℕ) : Type 0 where
  pub sound : first_fault config ≡ None
  pub in_range : IsConfigInRange config
  pub salted : salt < 2 ^ 64
  pub within : is_between (length (owners config) + 1) (2 ^ 32) max_entries ≡ true

-- A call that a book takes at a moment, after a history: the call is within the limits of the service, its body
-- consists of bytes, and the journal is not full for it.
pub record IsTakenAfter (config : Config) (max_entries : ℕ) (h : List Entry) (now : ℕ) (call : Call) : Type 0 where
  pub timed : IsTimed config (now, call)
  pub bytes : All (λ b. b < 256) (body_of call)
  pub room : full config max_entries h call ≡ false

-- The history that calls lead to, each with the moment at which it is handed in. The calls are given the newest first,
-- as the entries of a history are.
abbrev pub led_to : Config → List (ℕ × Call) → List Entry
led_to config [] = []
led_to config (c ∷ calls) = next config (led_to config calls) c.0 c.1

-- A book takes each of these calls, after the calls before it.
abbrev pub AreTaken : Config → ℕ → List (ℕ × Call) → Type 0
AreTaken config max_entries [] = Unit {0}
AreTaken config max_entries (c ∷ calls) =
    AreTaken config max_entries calls × IsTakenAfter config max_entries (led_to config calls) c.0 c.1

-- Reached: a history that calls led to, each of which a book takes.
pub record IsReached (config : Config) (max_entries : ℕ) (h : List Entry) : Type 0 where
  pub calls : List (ℕ × Call)
  pub taken : AreTaken config max_entries calls
  pub led : h ≡ led_to config calls
