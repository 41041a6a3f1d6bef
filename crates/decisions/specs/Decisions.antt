-- Which decisions an account can carry out.
use Rattle.std.specs.Prelude.{ℕ, ◌<◌, List, length}
use Rattle.arn_ids.specs.Limits.{longest_body}
use Rattle.arn_ids.specs.declared.config.Config.{Config}
use Rattle.call_types.specs.Within.{IsWithin, IsFunction}
use Rattle.decisions.specs.declared.decide.Shown.{Shown}
use Rattle.decisions.specs.declared.decide.Shown.TheVariants.{Stats, History, Trace, Environments, Reservation, Version}
use Rattle.decisions.specs.declared.decide.Decision.{Decision}
use Rattle.decisions.specs.declared.decide.Decision.TheVariants.{Submit, Reply, Show, Clock}

-- What is shown exists: a reservation is that of a function of the configuration.
abbrev pub IsThere : Config → Shown → Type 0
IsThere config Stats = Unit {0}
IsThere config (History from) = Unit {0}
IsThere config (Trace query) = Unit {0}
IsThere config Environments = Unit {0}
IsThere config (Reservation f) = IsFunction config f
IsThere config Version = Unit {0}

-- A decision that an account can carry out: its call is within the limits of the configuration, as a book requires of
-- each call, and what it shows exists.
abbrev pub IsAllowed : Config → Decision → Type 0
IsAllowed config (Submit call) = IsWithin config call
IsAllowed config (Reply reply) = Unit {0}
IsAllowed config (Show shown) = IsThere config shown
IsAllowed config (Clock request) = Unit {0}

-- The decision is that on this body; if the body is too long, it is that on every body that is too long.
abbrev pub IsOn : (List ℕ → Decision → Type 0) → List ℕ → Decision → Type 0
IsOn decides body decision =
    decides body decision
    × (longest_body < length body → (other : List ℕ) → longest_body < length other → decides other decision)
