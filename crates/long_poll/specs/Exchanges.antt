-- What an exchange may return.
use Rattle.std.specs.Prelude.{◌≡◌, ◌<◌, ◌⊎◌, ℕ, true, false, List, length, Option, Some, None, Result, Ok, Err}
use Rattle.std.specs.Arc.{arc_value}
use Rattle.arn_ids.specs.Limits.{longest_body}
use Rattle.account_lock.specs.declared.desk.Refused.{Refused}
use Rattle.call_types.specs.Within.{IsWithin}
use Rattle.call_types.specs.declared.call.Call.{Call}
use Rattle.call_types.specs.declared.call.Call.TheVariants.{Tick}
use Rattle.call_types.specs.declared.call.Entry.{Entry}
use Rattle.call_types.specs.declared.stats.Stats.{Stats as Counted}
use Rattle.futures.specs.Runs.{Runs}
use Rattle.http.specs.declared.request.Parts.{Parts}
use Rattle.http_body.specs.declared.frame.Frame.{Frame}
use Rattle.lambda_wire.specs.declared.reply.Reply.{Reply}
use Rattle.usage_ledger.specs.Tallies.{Held}
use Rattle.long_poll.specs.Bodies.{Reads, Fails}
use Rattle.long_poll.specs.Lengths.{declares_too_long}
use Rattle.long_poll.specs.Moments.{moment_of}
use Rattle.long_poll.specs.UnlessPremature.{CameBack}
use Rattle.long_poll.specs.Ringing.{rings_at, hears_at}
use Rattle.call_types.specs.Calls.{is_invoke}
use Rattle.long_poll.specs.Refusals.{refusal_reply}
use Rattle.long_poll.specs.Clocks.{IsClockReply}
use Rattle.long_poll.specs.Views.{stats_reply, environments_reply, followers_reply, reservation_reply, version_reply}
use Rattle.long_poll.specs.declared.service.bell.Heard.{Heard}
use Rattle.long_poll.specs.declared.service.bell.OneShotBell.{OneShotBell}
use Rattle.long_poll.specs.declared.service.clock.Clock as Clock
use Rattle.long_poll.specs.declared.exchange.connection.Begun.{Begun}
use Rattle.long_poll.specs.declared.exchange.connection.Begun.TheVariants.{Replied, HeldBack, AsksForHistory, AsksForTrace, Parked}
use Rattle.long_poll.specs.declared.exchange.connection.Connection.{Connection}
use Rattle.long_poll.specs.declared.exchange.submission.Submission.{Submission}
use Rattle.decisions.specs.declared.decide.Decide as Decide
use Rattle.decisions.specs.declared.decide.ClockRequest.{ClockRequest}
use Rattle.decisions.specs.declared.decide.Decision.{Decision}
use Rattle.decisions.specs.declared.decide.Decision.TheVariants as decision
use Rattle.decisions.specs.declared.decide.Shown.{Shown}
use Rattle.decisions.specs.declared.decide.TraceQuery.{TraceQuery}
use Rattle.decisions.specs.declared.decide.Shown.TheVariants.{Stats, History, Trace, Environments, Reservation, Version}
use Rattle.long_poll.specs.declared.exchange.fault.ExchangeFault.{ExchangeFault}
use Rattle.long_poll.specs.declared.exchange.fault.ExchangeFault.TheVariants.{BodyFailed, OutOfMemory, BellLost}
use Rattle.long_poll.specs.declared.exchange.outcome.Outcome.{Outcome}
use Rattle.long_poll.specs.declared.exchange.outcome.Outcome.TheVariants as outcome
use Rattle.long_poll.specs.declared.service.Service as Service
use Rattle.usage_ledger.specs.declared.keep.Keep as Keep

-- What is rendered at a ticket, in the history that the token has then seen; if nothing is, the fault is that of a lost
-- bell.
abbrev pub Renders : (ℕ → Option Reply → List Entry → Type 0) → ℕ → Result Reply ExchangeFault → List Entry → Type 0
Renders renders ticket (Ok reply) then = renders ticket (Some reply) then
Renders renders ticket (Err BellLost) then = renders ticket None then
Renders renders ticket (Err OutOfMemory) then = Unit {0}
Renders renders ticket (Err BodyFailed) then = ⊥

-- Something was heard, which `hears` allows, and this is rendered at the ticket.
abbrev pub RendersOnce : {O : Type 0} → (O → Type 0) → (ℕ → Option Reply → List Entry → Type 0) → ℕ
    → Result Reply ExchangeFault → List Entry → Type 0
RendersOnce {O} hears renders ticket result then = ((said : O) × hears said) × Renders renders ticket result then

-- What is rendered at a ticket whose answer was awaited: a reply, with a token of the history that it is of; never a
-- history or trace.
abbrev pub Awaits : {H L : Type 0} → (ℕ → Option Reply → List Entry → Type 0) → ℕ
    → Result (Outcome H L) ExchangeFault → Type 0
Awaits renders ticket (Ok (outcome.Reply reply token)) = renders ticket (Some reply) token
Awaits renders ticket (Ok (outcome.History body)) = ⊥
Awaits renders ticket (Ok (outcome.Trace body)) = ⊥
Awaits renders ticket (Err fault) = (then : List Entry) × Renders renders ticket (Err fault) then

-- The property holds of what was read of a body, of which the bytes `held` are held already; or the head declares a
-- body that is too long, none of it is read, and the property holds of each body that is too long.
abbrev pub IsOfBody : {P E : Type 0} → (P → List ℕ → Type 0) → Runs (Result (Frame P) E) → Parts → List ℕ
    → (List ℕ → Type 0) → Type 0
IsOfBody reads source head held is =
    ((body : List ℕ) × Reads reads source held body × is body)
    ⊎ ((declares_too_long head ≡ true) × ((body : List ℕ) → longest_body < length body → is body))

-- Of a connection: its account, its clock and who decides its requests, each by the relations of its trait.
module _ {R S D N K L T : Type 0} {service : Service.Ghosts S K L T} {decider : Decide.Ghosts D}
    {keep : Keep.Ghosts K} (connection : Connection R S D N K L T service decider keep) where
  -- The connection's account.
  abbrev pub service_of : S
  service_of = arc_value (arc_value connection.shared).service

  -- The connection's clock.
  abbrev pub clock_of : N
  clock_of = (arc_value connection.shared).clock

  -- What the connection's account renders at a ticket, to a token that had seen the first beginning of the history, and
  -- has then seen the second.
  abbrev pub shown : List Entry → ℕ → Option Reply → List Entry → Type 0
  shown seen ticket reply then = service.renders service_of seen ticket reply then

  -- What holds of a submission: its call is within the limits of the account's configuration, and its bell can be heard.
  abbrev pub IsSubmission : Submission → Type 0
  IsSubmission submission =
      IsWithin (service.serves service_of) submission.call
      × (rings_at submission.bell ≡ hears_at submission.heard)

  -- What is decided about a request with this head and this body.
  abbrev pub Decides : Parts → List ℕ → Decision → Type 0
  Decides head body made = decider.decides (arc_value connection.decider) head body made

  -- What a token of the connection has seen before it submits or reads: the history as it was when the connection began,
  -- or a beginning of that.
  abbrev pub anchored : List Entry
  anchored = connection.anchor

  -- The account shows these counts to a token that has then seen this history.
  abbrev pub Counts : Counted → List Entry → Type 0
  Counts stats then = service.counts service_of anchored stats then

  -- The account shows this text of its environments to a token that has then seen this history.
  abbrev pub Lists : List ℕ → List Entry → Type 0
  Lists text then = service.lists service_of anchored text then

  -- The account shows this reservation of a function to a token that has then seen this history.
  abbrev pub Reserves : ℕ → Option ℕ → List Entry → Type 0
  Reserves f count then = service.reserves service_of anchored f count then

  -- The reply shows what is asked for, as the account gives it to a token that has then seen this history. A history
  -- and its trace are shown by a body that is streamed, never by a reply; but if a trace is to be followed, the reply may
  -- say that as many connections follow it as may.
  abbrev pub IsView : Shown → Reply → List Entry → Type 0
  IsView Stats reply then = (stats : _) × Counts stats then × (reply ≡ stats_reply stats)
  IsView (History from) reply then = ⊥
  IsView (Trace query) reply then = (query.follow ≡ true) × (reply ≡ followers_reply)
  IsView Environments reply then = (text : List ℕ) × Lists text then × (reply ≡ environments_reply text)
  IsView (Reservation f) reply then = (count : Option ℕ) × Reserves f count then × (reply ≡ reservation_reply count)
  IsView Version reply then = reply ≡ version_reply

  -- A Tick was submitted at a moment, with no bell, and this was the result.
  pub record Ticked (now : ℕ) (back : CameBack) : Type 0 where
    pub before : Held
    pub then : List Entry
    pub after : Held
    pub came : service.submits service_of anchored before now Tick None back then after

  -- A Tick was taken at a moment, and made this history.
  abbrev pub IsTickedAt : List Entry → ℕ → Type 0
  IsTickedAt seen now = (ticket : ℕ) × Ticked now (Ok (ticket, seen))

  -- A Tick was refused at a moment, and what was then seen is this.
  abbrev pub IsTickRefused : ℕ → Refused OneShotBell → List Entry → Type 0
  IsTickRefused now refused then = (ticked : Ticked now (Err refused)) × (then ≡ ticked.then)

  -- The same, and the reply says so.
  abbrev pub IsTickRefusal : List Entry → ℕ → Reply → Type 0
  IsTickRefusal then now reply =
      (refused : Refused OneShotBell) × IsTickRefused now refused then × (reply ≡ refusal_reply false refused.refusal)

  module _ (clock : Clock.Ghosts N) where
    -- A call was submitted at a reading of the clock, with a bell, and this was the result.
    pub record Submitted (call : Call) (back : CameBack) : Type 0 where
      pub reading : ℕ
      pub read : clock.reads clock_of reading
      pub before : Held
      pub then : List Entry
      pub after : Held
      pub bell : OneShotBell
      pub came : service.submits service_of
          anchored before (moment_of reading) call (Some bell) back then after

    -- The same with this bell.
    abbrev pub SubmittedWith : OneShotBell → Call → CameBack → Type 0
    SubmittedWith bell call back = (submitted : Submitted call back) × (submitted.bell ≡ bell)

    -- A call was submitted and refused, and what was then seen is this.
    abbrev pub TurnedAway : OneShotBell → Call → Refused OneShotBell → List Entry → Type 0
    TurnedAway bell call refused then =
        (submitted : Submitted call (Err refused)) × (submitted.bell ≡ bell) × (then ≡ submitted.then)

    -- A call was submitted, and this is rendered at the ticket that it got, to a token that had seen the history that
    -- the call made, and has then seen this one.
    abbrev pub IsRendered : Call → Option Reply → List Entry → Type 0
    IsRendered call rendered then =
        (ticket : ℕ) × (seen : List Entry) × Submitted call (Ok (ticket, seen)) × shown seen ticket rendered then

    -- A call was submitted and refused, and the reply says so; what was then seen is this.
    abbrev pub IsRefusal : Call → Reply → List Entry → Type 0
    IsRefusal call reply then =
        (bell : OneShotBell) × (refused : Refused OneShotBell) × TurnedAway bell call refused then
        × (reply ≡ refusal_reply (is_invoke call) refused.refusal)

    -- A call was submitted, got this ticket and made this history, and `heard` hears the bell that was submitted with
    -- it.
    abbrev pub IsParked : Call → ℕ → Heard → List Entry → Type 0
    IsParked call ticket heard seen =
        (submitted : Submitted call (Ok (ticket, seen))) × (rings_at submitted.bell ≡ hears_at heard)

    -- A call was submitted with a bell that can be heard, and nothing is rendered at the ticket that it got.
    abbrev pub IsLost : Call → Type 0
    IsLost call =
        (ticket : ℕ) × (heard : Heard) × (seen : List Entry) × IsParked call ticket heard seen
        × ((then : List Entry) × shown seen ticket None then)

    -- How far a call has come: it was submitted, and was refused and has its reply, or has its ticket; or this very
    -- call is held back.
    abbrev pub IsBegun : Call → Begun L → Type 0
    IsBegun call (Replied reply token) = IsRefusal call reply token
    IsBegun call (HeldBack held) = (held.value.call ≡ call) × IsSubmission held.value
    IsBegun call (AsksForHistory from) = ⊥
    IsBegun call (AsksForTrace query) = ⊥
    IsBegun call (Parked ticket heard token) = IsParked call ticket heard token

    -- The reply to what is asked of the connection's clock, with what its token has seen: the history that the Tick of an
    -- advance made, or in which it was refused.
    abbrev pub IsOfClock : ClockRequest → Reply → List Entry → Type 0
    IsOfClock request reply token =
        IsClockReply (clock.reads clock_of) (IsTickedAt token) (IsTickRefusal token) request reply

    -- The reply to a request, given what is decided about it, with what its token has seen: the history that the reply
    -- is of, or anything if the reply itself was decided.
    abbrev pub IsReply : Decision → Reply → List Entry → Type 0
    IsReply (decision.Submit call) reply token = IsRendered call (Some reply) token ⊎ IsRefusal call reply token
    IsReply (decision.Reply own) reply token = reply ≡ own
    IsReply (decision.Show shown) reply token = IsView shown reply token
    IsReply (decision.Clock request) reply token = IsOfClock request reply token

    -- How far a request with this head and this body has come.
    abbrev pub HasBegun : Parts → List ℕ → Begun L → Type 0
    HasBegun head body (Replied reply token) = (made : Decision) × Decides head body made × IsReply made reply token
    HasBegun head body (HeldBack held) = Decides head body (decision.Submit held.value.call) × IsSubmission held.value
    HasBegun head body (AsksForHistory from) = Decides head body (decision.Show (History from))
    HasBegun head body (AsksForTrace query) = Decides head body (decision.Show (Trace query))
    HasBegun head body (Parked ticket heard token) =
        (call : Call) × Decides head body (decision.Submit call) × IsParked call ticket heard token

    -- The result of a call that was held back: it was submitted in the end, or an allocation failed.
    abbrev pub ComesOfCall : {H : Type 0} → Call → Result (Outcome H L) ExchangeFault → Type 0
    ComesOfCall call (Ok (outcome.Reply reply token)) = IsRendered call (Some reply) token ⊎ IsRefusal call reply token
    ComesOfCall call (Ok (outcome.History shown)) = ⊥
    ComesOfCall call (Ok (outcome.Trace shown)) = ⊥
    ComesOfCall call (Err BellLost) = IsLost call
    ComesOfCall call (Err OutOfMemory) = Unit {0}
    ComesOfCall call (Err BodyFailed) = ⊥

    module _ {H : Type 0} (shows : Shown → H → Type 0) where
      -- The result of a request with this head and this body: a reply, or, if the history or its trace is asked for, a
      -- body that shows it from there on. The fault of a lost bell is returned only if the call was submitted and nothing is
      -- rendered at its ticket; that the bell was heard before is not stated.
      abbrev pub ComesOf : Parts → List ℕ → Result (Outcome H L) ExchangeFault → Type 0
      ComesOf head body (Ok (outcome.Reply reply token)) =
          (made : Decision) × Decides head body made × IsReply made reply token
      ComesOf head body (Ok (outcome.History shown)) =
          (from : Option ℕ) × Decides head body (decision.Show (History from)) × shows (History from) shown
      ComesOf head body (Ok (outcome.Trace shown)) =
          (query : TraceQuery) × Decides head body (decision.Show (Trace query)) × shows (Trace query) shown
      ComesOf head body (Err BellLost) =
          (call : Call) × Decides head body (decision.Submit call) × IsLost call
      ComesOf head body (Err OutOfMemory) = Unit {0}
      ComesOf head body (Err BodyFailed) = ⊥

      -- The result of a request with this head, and with a body of which the bytes `held` are held already: the body
      -- failed, an allocation failed, or it is a result of the head and the body.
      abbrev pub Exchanges : {P E : Type 0} → (P → List ℕ → Type 0) → Runs (Result (Frame P) E) → Parts
          → List ℕ → Result (Outcome H L) ExchangeFault → Type 0
      Exchanges reads source head held (Err BodyFailed) = Fails source
      Exchanges reads source head held (Err OutOfMemory) = Unit {0}
      Exchanges reads source head held (Err BellLost) =
          IsOfBody reads source head held (λ body. ComesOf head body (Err BellLost))
      Exchanges reads source head held (Ok answer) =
          IsOfBody reads source head held (λ body. ComesOf head body (Ok answer))
