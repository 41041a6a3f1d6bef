-- The result of an attempt to submit a call.
use Rattle.std.specs.Prelude.{◌≡◌, ◌<◌, ℕ, Ok}
use Rattle.call_types.specs.declared.call.Call.{Call}
use Rattle.decisions.specs.declared.decide.Decide as Decide
use Rattle.long_poll.specs.Exchanges.{SubmittedWith, TurnedAway}
use Rattle.long_poll.specs.declared.service.bell.OneShotBell.{OneShotBell}
use Rattle.long_poll.specs.declared.service.clock.Clock as Clock
use Rattle.long_poll.specs.declared.exchange.submission.Attempt.{Attempt}
use Rattle.long_poll.specs.declared.exchange.submission.Attempt.TheVariants.{Taken, Refused, TooEarly}
use Rattle.long_poll.specs.declared.exchange.connection.Begun.{Begun}
use Rattle.long_poll.specs.declared.exchange.connection.Begun.TheVariants.{Replied, HeldBack, AsksForHistory, AsksForTrace, Parked}
use Rattle.long_poll.specs.declared.exchange.connection.Connection.{Connection}
use Rattle.long_poll.specs.declared.service.Service as Service
use Rattle.usage_ledger.specs.declared.keep.Keep as Keep

-- A call comes too early only if there is time left for it.
abbrev pub IsPatient : {L : Type 0} → ℕ → Attempt L → Type 0
IsPatient left (Taken ticket token) = Unit {0}
IsPatient left (Refused refused token) = Unit {0}
IsPatient left (TooEarly call bell) = 0 < left

-- If a call is held back again, less time is left for it than before.
abbrev pub IsNearer : {L : Type 0} → ℕ → Begun L → Type 0
IsNearer left (Replied reply token) = Unit {0}
IsNearer left (HeldBack held) = held.value.left_us < left
IsNearer left (AsksForHistory from) = Unit {0}
IsNearer left (AsksForTrace query) = Unit {0}
IsNearer left (Parked ticket heard token) = Unit {0}

module _ {R S D N K L T : Type 0} {service : Service.Ghosts S K L T} {decider : Decide.Ghosts D}
    {keep : Keep.Ghosts K} (connection : Connection R S D N K L T service decider keep)
    (clock : Clock.Ghosts N) where
  -- The call was submitted with this bell: it was taken, and this is its ticket with a token of the history that it made;
  -- or it was refused, and the token is of what was then seen. Or it came too early, and is returned with its bell.
  abbrev pub IsAttempt : OneShotBell → Call → Attempt L → Type 0
  IsAttempt bell call (Taken ticket token) = SubmittedWith connection clock bell call (Ok (ticket, token))
  IsAttempt bell call (Refused refused token) = TurnedAway connection clock bell call refused token
  IsAttempt bell call (TooEarly other its) = (other ≡ call) × (its ≡ bell)
