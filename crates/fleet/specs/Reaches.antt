-- Which environments an entry reaches: those that it concerns.
use Rattle.std.specs.Prelude.{ℕ, ◌-◌, Bool, true, false, ◌==◌, List, length, drop, Option, Some, None}
use Rattle.call_types.specs.Calls.{env_of}
use Rattle.call_types.specs.declared.call.Call.{Call}
use Rattle.call_types.specs.declared.call.Call.TheVariants.{Stop, Withdraw}
use Rattle.call_types.specs.declared.call.Entry.{Entry}
use Rattle.call_model.specs.History.{call_of, or_else, poll_env}
use Rattle.fleet.specs.declared.reach.Reach.{Reach}
use Rattle.fleet.specs.declared.reach.Reach.TheVariants.{Nowhere, At, Everywhere}

-- The entries before the one with a ticket.
abbrev pub before : List Entry → ℕ → List Entry
before h ticket = drop (length h - ticket) h

-- The reach of a call that concerns this environment, if any.
abbrev pub at_most : Option ℕ → Reach
at_most None = Nowhere
at_most (Some e) = At e

-- The environments that a call reaches: every environment for a Stop, that of the withdrawn Next for a Withdraw, and
-- for any other call the one where it is placed or, if it is not placed, the one that it names, if any.
abbrev pub reach : List Entry → Option ℕ → Call → Reach
reach h place Stop = Everywhere
reach h place (Withdraw t) = at_most (poll_env (call_of h t))
reach h place call = at_most (or_else place (env_of call))

-- Whether an environment is within a reach.
abbrev pub reaches : Reach → ℕ → Bool
reaches Nowhere e = false
reaches (At d) e = d == e
reaches Everywhere e = true
