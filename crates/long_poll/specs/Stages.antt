-- The stages of an exchange, and what it may return from each.
use Rattle.std.specs.Prelude.{◌≡◌, ℕ, Bool, List, Result, Ok, Err}
use Rattle.futures.specs.Runs.{Runs}
use Rattle.http.specs.declared.request.Parts.{Parts}
use Rattle.http_body.specs.declared.frame.Frame.{Frame}
use Rattle.long_poll.specs.Bodies.{Fails}
use Rattle.long_poll.specs.Exchanges.{Exchanges, IsOfBody, ComesOfCall, IsBegun, HasBegun, Awaits, shown}
use Rattle.long_poll.specs.Lengths.{declares_too_long}
use Rattle.long_poll.specs.Ringing.{hears_at}
use Rattle.long_poll.specs.declared.service.clock.Clock as Clock
use Rattle.long_poll.specs.declared.exchange.connection.Begun.{Begun}
use Rattle.long_poll.specs.declared.exchange.connection.Connection.{Connection}
use Rattle.long_poll.specs.declared.exchange.submission.Submission.{Submission}
use Rattle.decisions.specs.declared.decide.Decide as Decide
use Rattle.decisions.specs.declared.decide.Shown.{Shown}
use Rattle.long_poll.specs.declared.exchange.Stage.{Stage}
use Rattle.long_poll.specs.declared.exchange.Stage.TheVariants.{Collecting, Submitting, Trying, Waiting}
use Rattle.long_poll.specs.declared.exchange.fault.ExchangeFault.{ExchangeFault}
use Rattle.long_poll.specs.declared.exchange.fault.ExchangeFault.TheVariants.{BodyFailed, OutOfMemory, BellLost}
use Rattle.long_poll.specs.declared.exchange.outcome.Outcome.{Outcome}
use Rattle.long_poll.specs.declared.service.Service as Service
use Rattle.usage_ledger.specs.declared.keep.Keep as Keep

-- What holds while the body is collected: it can be polled, and whether the head declares that it is too long is known.
abbrev pub IsCollecting : {B : Type 0} → (B → Type 0) → Parts → B → Bool → Type 0
IsCollecting can_poll parts body declared = can_poll body × (declared ≡ declares_too_long parts)

-- The body is being collected and can be polled, or the call is held back.
abbrev pub IsStarting : {B L : Type 0} → (Submission → Type 0) → (B → Type 0) → Stage B L → Type 0
IsStarting is_submission can_poll (Collecting parts collecting declared) =
    IsCollecting can_poll parts collecting.body declared
IsStarting is_submission can_poll (Submitting held) = is_submission held.value
IsStarting is_submission can_poll Trying = ⊥
IsStarting is_submission can_poll (Waiting ticket heard token) = ⊥

-- The call is held back.
abbrev pub IsSubmitting : {B L : Type 0} → (Submission → Type 0) → Stage B L → Type 0
IsSubmitting is_submission (Collecting parts collecting declared) = ⊥
IsSubmitting is_submission (Submitting held) = is_submission held.value
IsSubmitting is_submission Trying = ⊥
IsSubmitting is_submission (Waiting ticket heard token) = ⊥

-- The answer is awaited.
abbrev pub IsWaiting : {B L : Type 0} → Stage B L → Type 0
IsWaiting (Collecting parts collecting declared) = ⊥
IsWaiting (Submitting held) = ⊥
IsWaiting Trying = ⊥
IsWaiting (Waiting ticket heard token) = Unit {0}

-- The exchange can be polled.
abbrev pub CanGoOn : {B L : Type 0} → (Submission → Type 0) → (B → Type 0) → Stage B L → Type 0
CanGoOn is_submission can_poll (Collecting parts collecting declared) =
    IsCollecting can_poll parts collecting.body declared
CanGoOn is_submission can_poll (Submitting held) = is_submission held.value
CanGoOn is_submission can_poll Trying = ⊥
CanGoOn is_submission can_poll (Waiting ticket heard token) = Unit {0}

-- The sources that the exchange waits for: those of its body, or that of its bell. While its call is held back, it
-- waits for none and asks to be polled again.
abbrev pub WaitsFor : {B L : Type 0} → (B → ℕ → Type 0) → Stage B L → ℕ → Type 0
WaitsFor needs (Collecting parts collecting declared) source = needs collecting.body source
WaitsFor needs (Submitting held) source = ⊥
WaitsFor needs Trying source = ⊥
WaitsFor needs (Waiting ticket heard token) source = source ≡ hears_at heard

module _ {R S D N K L T : Type 0} {service : Service.Ghosts S K L T} {decider : Decide.Ghosts D}
    {keep : Keep.Ghosts K} (connection : Connection R S D N K L T service decider keep)
    (clock : Clock.Ghosts N) {B P E : Type 0}
    (yields : B → Runs (Result (Frame P) E)) (reads : P → List ℕ → Type 0) where
  -- What the exchange may return; `shows` says which bodies show what is asked for, a history or its trace.
  abbrev pub GivesFrom : {H : Type 0} → (Shown → H → Type 0) → Stage B L → Result (Outcome H L) ExchangeFault
      → Type 0
  GivesFrom shows (Collecting parts collecting declared) =
      Exchanges connection clock shows reads (yields collecting.body) parts collecting.held
  GivesFrom shows (Submitting held) = ComesOfCall connection clock held.value.call
  GivesFrom shows Trying = λ r. ⊥
  GivesFrom shows (Waiting ticket heard token) = Awaits (shown connection token) ticket

  -- How far the request has come once its body was collected, or once its call was tried again.
  abbrev pub StartsFrom : Stage B L → Result (Begun L) ExchangeFault → Type 0
  StartsFrom (Collecting parts collecting declared) (Ok begun) =
      IsOfBody reads (yields collecting.body) parts collecting.held (λ body. HasBegun connection clock parts body begun)
  StartsFrom (Collecting parts collecting declared) (Err BodyFailed) = Fails (yields collecting.body)
  StartsFrom (Collecting parts collecting declared) (Err OutOfMemory) = Unit {0}
  StartsFrom (Collecting parts collecting declared) (Err BellLost) = ⊥
  StartsFrom (Submitting held) (Ok begun) = IsBegun connection clock held.value.call begun
  StartsFrom (Submitting held) (Err BodyFailed) = ⊥
  StartsFrom (Submitting held) (Err OutOfMemory) = Unit {0}
  StartsFrom (Submitting held) (Err BellLost) = ⊥
  StartsFrom Trying begun = ⊥
  StartsFrom (Waiting ticket heard token) begun = ⊥
