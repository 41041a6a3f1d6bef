-- The counts of Invokes that a book keeps of its history, and which calls a history can have.
use Rattle.std.specs.Prelude.{ℕ, List, [], ◌∷◌, map}
use Rattle.arn_ids.specs.declared.config.Config.{Config}
use Rattle.arn_ids.specs.Environments.{function_numbers}
use Rattle.call_types.specs.declared.call.Call.{Call}
use Rattle.call_types.specs.declared.call.Call.TheVariants.{Expire}
use Rattle.call_types.specs.declared.call.Entry.{Entry}
use Rattle.call_model.specs.History.{requests}
use Rattle.call_types.specs.Within.{IsEnv, IsWithin}

-- The number of Invokes that each function has had.
abbrev pub request_counts : Config → List Entry → List ℕ
request_counts config h = map (requests h) (function_numbers config)

-- A call that a history can have: a call within the limits of the service, or an expiry of an environment that exists.
abbrev pub IsKnown : Config → Call → Type 0
IsKnown config (Expire e) = IsEnv config e
IsKnown config call = IsWithin config call

-- A history of such calls.
abbrev pub AllKnown : Config → List Entry → Type 0
AllKnown config [] = Unit {0}
AllKnown config (entry ∷ h) = AllKnown config h × IsKnown config entry.call
