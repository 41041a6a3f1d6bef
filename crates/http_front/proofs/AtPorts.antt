-- What answers a request on a connection of a port answers it at the port.
use Rattle.std.proofs.Common.{◌≡◌, ◌⊎◌, ◌+◌, ◌<◌, ◌^◌, ℕ, Bool, List, [], Option, Some, None, Result, Ok, Err, MatchOption, subst, sym, ap, ◌∙◌, inl, inr}
use Rattle.std.specs.Arc.{arc_value}
use Rattle.account_lock.specs.Shown.{IsTaken}
use Rattle.account_lock.specs.Submits.{IsTurnedAway}
use Rattle.account_lock.specs.declared.desk.Refused.{Refused}
use Rattle.call_types.specs.declared.call.Call.{Call}
use Rattle.call_types.specs.declared.call.Call.TheVariants.{Tick}
use Rattle.call_types.specs.declared.call.Entry.{Entry}
use Rattle.call_types.specs.declared.stats.Stats.{Stats as Counted}
use Rattle.decisions.specs.declared.decide.ClockRequest.{ClockRequest}
use Rattle.decisions.specs.declared.decide.ClockRequest.TheVariants as asked
use Rattle.decisions.specs.declared.decide.Decide as Decide
use Rattle.decisions.specs.declared.decide.Decision.{Decision}
use Rattle.decisions.specs.declared.decide.Decision.TheVariants as decided
use Rattle.decisions.specs.declared.decide.Shown.{Shown}
use Rattle.decisions.specs.declared.decide.Shown.TheVariants as show
use Rattle.futures.specs.Runs.{Runs}
use Rattle.http.specs.declared.request.Parts.{Parts}
use Rattle.http.specs.declared.response.Response.{Response}
use Rattle.http_body.specs.declared.frame.Frame.{Frame}
use Rattle.http_body_util.specs.declared.either.Either.{Either}
use Rattle.http_front.specs.Sent.{SentBody}
use Rattle.http_front.specs.Answered as Answered
use Rattle.http_front.specs.Answered.{IsReplyTo, IsOutcomeOf, IsDecided, IsItsOwn, IsAnswerAt, IsTicked}
use Rattle.http_front.specs.Exchanged.{ComesTo, IsAnswer, IsOwnAnswer}
use Rattle.http_front.specs.Handing.{IsGivenAtDesk, IsWayOf}
use Rattle.http_front.specs.Responses.{IsAnswerTo, IsRefusal}
use Rattle.http_front.specs.declared.at_desk.Way.TheVariants.{Own}
use Rattle.http_front.specs.declared.front.Front.{Front}
use Rattle.http_routes.specs.Decisions.{Served, decision}
use Rattle.lambda_wire.specs.declared.reply.Reply.{Reply}
use Rattle.long_poll.specs.Clocks.{IsAdvance, IsClockReply}
use Rattle.long_poll.specs.Exchanges.{IsOfBody, ComesOf, IsReply, IsTickedAt, IsTickRefusal, anchored, clock_of, service_of}
use Rattle.long_poll.specs.Lengths.{declares_too_long}
use Rattle.long_poll.specs.Outcomes.{IsStreamOf}
use Rattle.long_poll.specs.Reads.{Counts, Lists, Reserves}
use Rattle.long_poll.specs.Replies.{IsReplyAt, IsRefusalOf}
use Rattle.long_poll.specs.Views.{clock_reply, stats_reply, environments_reply, reservation_reply}
use Rattle.long_poll.specs.declared.service.clock.Clock as Clock
use Rattle.long_poll.specs.declared.exchange.connection.Connection.{Connection}
use Rattle.long_poll.specs.declared.exchange.fault.ExchangeFault.{ExchangeFault}
use Rattle.long_poll.specs.declared.exchange.fault.ExchangeFault.TheVariants.{BodyFailed, OutOfMemory, BellLost}
use Rattle.long_poll.specs.declared.streamed_body.StreamedBody.{StreamedBody}
use Rattle.long_poll.specs.declared.exchange.outcome.Outcome.{Outcome}
use Rattle.long_poll.specs.declared.exchange.outcome.Outcome.TheVariants as outcome
use Rattle.long_poll.specs.declared.service.Service as Service
use Rattle.request_guard.specs.Guarding.{refusal_of}
use Rattle.service_port.specs.declared.port.Port.{Port}
use Rattle.request_guard.specs.declared.refusal.Refusal.{Refusal}
use Rattle.request_guard.specs.declared.refusal.Refusal.TheVariants as refused
use Rattle.long_poll.specs.declared.service.bell.OneShotBell.{OneShotBell}
use Rattle.usage_ledger.specs.Tallies.{Held}
use Rattle.usage_ledger.specs.declared.keep.Keep as Keep

-- it is so of the same bodies
of_body : {P E : Type 0} (has : P → List ℕ → Type 0) (source : Runs (Result (Frame P) E)) (head : Parts) (held : List ℕ)
    (is less : List ℕ → Type 0) → ((body : List ℕ) → is body → less body) → IsOfBody has source head held is
    → IsOfBody has source head held less
of_body has source head held is less weaken (inl x) = inl (x.0, x.1, weaken x.0 x.2)
of_body has source head held is less weaken (inr x) = inr (x.0, λ body long. weaken body (x.1 body long))

-- and what is replied to a request of the same clock, for which more may be said of its Tick
module _ (reads : ℕ → Type 0) (ticks less : ℕ → Type 0) (turned fewer : ℕ → Reply → Type 0)
    (ticked : (now : ℕ) → ticks now → less now)
    (away : (now : ℕ) (reply : Reply) → turned now reply → fewer now reply) where
  abbrev Shows : ℕ → Reply → Type 0
  Shows now reply = (running : Bool) × (reply ≡ clock_reply now running)

  of_tick : (now : ℕ) (reply : Reply) → (ticks now × Shows now reply) ⊎ turned now reply
      → (less now × Shows now reply) ⊎ fewer now reply
  of_tick now reply (inl x) = inl (ticked now x.0, x.1)
  of_tick now reply (inr x) = inr (away now reply x)

  of_move : (now : ℕ) (reply : Reply) {P : Type 0}
      → P ⊎ (reads now × (now < 2 ^ 53) × ((ticks now × Shows now reply) ⊎ turned now reply))
      → P ⊎ (reads now × (now < 2 ^ 53) × ((less now × Shows now reply) ⊎ fewer now reply))
  of_move now reply (inl past) = inl past
  of_move now reply (inr x) = inr (x.0, x.1, of_tick now reply x.2)

  advance : (by : ℕ) (reply : Reply) → IsAdvance reads ticks turned by reply → IsAdvance reads less fewer by reply
  advance by reply x = (x.0, x.1, of_move (x.0 + by) reply x.2)

  of_clock : (request : ClockRequest) (reply : Reply) → IsClockReply reads ticks turned request reply
      → IsClockReply reads less fewer request reply
  of_clock asked.Show reply x = x
  of_clock (asked.Advance by) reply x = advance by reply x
  of_clock asked.Pause reply x = x
  of_clock asked.Resume reply x = x

-- On a connection of an account and a decider whose relations are those of the port.
module _ {R S D N K L B P E T : Type 0} {service : Service.Ghosts S K L T} {decider : Decide.Ghosts D}
    {keep : Keep.Ghosts K} (clock : Clock.Ghosts N) (yields : B → Runs (Result (Frame P) E))
    (has : P → List ℕ → Type 0) (front : Front R S D N K L T service decider keep) (served : Served)
    (most : ℕ)
    (replies : (call : Call) (reply : Reply) (token : List Entry)
    → IsReply (arc_value front.connection) clock (decided.Submit call) reply token
    → IsReplyAt served.config most served.salt (anchored (arc_value front.connection)) call reply token)
    (takes : (had : List Entry) (before : Held) (now ticket : ℕ) (seen then : List Entry) (after : Held)
    → service.submits (service_of (arc_value front.connection)) had before now Tick None (Ok (ticket, seen)) then after
    → IsTaken served.config most had now Tick ticket seen)
    (refuses : (had : List Entry) (before : Held) (now : ℕ) (refused : Refused OneShotBell) (then : List Entry) (after : Held)
    → service.submits (service_of (arc_value front.connection)) had before now Tick None (Err refused) then after
    → IsTurnedAway served.config most had Tick refused.refusal then)
    (counts : (seen : List Entry) (stats : Counted) (then : List Entry)
    → service.counts (service_of (arc_value front.connection)) seen stats then
    → Counts served.config most seen stats then)
    (lists : (seen : List Entry) (text : List ℕ) (then : List Entry)
    → service.lists (service_of (arc_value front.connection)) seen text then
    → Lists served.config most served.salt seen text then)
    (reserves : (seen : List Entry) (f : ℕ) (count : Option ℕ) (then : List Entry)
    → service.reserves (service_of (arc_value front.connection)) seen f count then
    → Reserves served.config most seen f count then)
    (decides : (head : Parts) (body : List ℕ) (made : Decision)
    → decider.decides (arc_value (arc_value front.connection).decider) head body made
    → made ≡ decision served head body) where
  abbrev connection : Connection R S D N K L T service decider keep
  connection = arc_value front.connection

  abbrev H : Type 0
  H = StreamedBody R S T K L

  abbrev read : ℕ → Type 0
  read = clock.reads (clock_of connection)

  abbrev since : List Entry
  since = anchored connection

  ticked : (token : List Entry) (now : ℕ) → IsTickedAt connection token now → IsTicked read served.config most served.salt since token now
  ticked token now (ticket, t) = (ticket, takes since t.before now ticket token t.then t.after t.came)

  away : (token : List Entry) (now : ℕ) (reply : Reply) → IsTickRefusal connection token now reply
      → Answered.IsTurnedAway read served.config most served.salt since token now reply
  away token now reply (refused, t, says) =
      let turned : IsTurnedAway served.config most since Tick refused.refusal token =
      subst (IsTurnedAway served.config most since Tick refused.refusal) (sym t.1)
      (refuses since t.0.before now refused t.0.then t.0.after t.0.came) in (
        turned.sees.later,
        record {
          reached = turned.sees.reached;
          refusal = refused.refusal;
          exactly = turned.exactly;
          says = says;
        },
      )

  reply_to : (made : Decision) (reply : Reply) (token : List Entry) → IsReply connection clock made reply token
      → IsReplyTo read served.config most served.salt since made reply token
  reply_to (decided.Submit call) reply token x = replies call reply token x
  reply_to (decided.Reply own) reply token x = x
  reply_to (decided.Show show.Stats) reply token x =
      let counted = counts since x.0 token x.1 in
      ((counted.0.later, counted.0.reached), x.2 ∙ ap stats_reply counted.1)
  reply_to (decided.Show (show.History from)) reply token x = x
  reply_to (decided.Show (show.Trace query)) reply token x = x
  reply_to (decided.Show show.Environments) reply token x =
      let listed = lists since x.0 token x.1 in
      ((listed.0.later, listed.0.reached), x.2 ∙ ap environments_reply listed.1)
  reply_to (decided.Show (show.Reservation f)) reply token x =
      let reserved = reserves since f x.0 token x.1 in
      ((reserved.0.later, reserved.0.reached), x.2 ∙ ap reservation_reply reserved.1)
  reply_to (decided.Show show.Version) reply token x = x
  reply_to (decided.Clock request) reply token x =
      of_clock read (IsTickedAt connection token) (IsTicked read served.config most served.salt since token)
      (IsTickRefusal connection token) (Answered.IsTurnedAway read served.config most served.salt since token)
      (ticked token) (away token) request reply x

  outcome_of : (shows : Shown → H → Type 0) (head : Parts) (body : List ℕ) (given : Outcome H L)
      → ComesOf connection clock shows head body (Ok given) → IsOutcomeOf L shows read served most since (decision served head body) given
  outcome_of shows head body (outcome.Reply reply token) x =
      subst (λ made. IsReplyTo read served.config most served.salt since made reply token) (decides head body x.0 x.1)
      (reply_to x.0 reply token x.2)
  outcome_of shows head body (outcome.History shown) x =
      (x.0, sym (decides head body (decided.Show (show.History x.0)) x.1), x.2)
  outcome_of shows head body (outcome.Trace shown) x =
      (x.0, sym (decides head body (decided.Show (show.Trace x.0)) x.1), x.2)

  module _ (hosts : List ℕ) (head : Parts) (response : Response (Either SentBody H)) where
    abbrev shows : Shown → H → Type 0
    shows = IsStreamOf service (service_of connection) since

    abbrev Exchanged : Served → Port → Type 0
    Exchanged side at =
        IsWayOf side head Own
        × ((made : Result (Outcome H L) ExchangeFault) × ComesTo clock yields has front head made
        × IsAnswerTo at (declares_too_long head) made response)

    exchanged : IsWayOf served head Own → (made : Result (Outcome H L) ExchangeFault)
        → ComesTo clock yields has front head made
        → IsAnswerTo served.port (declares_too_long head) made response
        → IsRefusal served.port (declares_too_long head) refused.OutOfMemory response
        ⊎ (IsWayOf served head Own
        × (IsRefusal served.port (declares_too_long head) refused.BrokenBody response
        ⊎ IsDecided L shows read served most since yields has hosts head response))
    exchanged way (Ok given) x answer =
        inr (
          way,
          inr (
            x.0,
            given,
            of_body
                has
                (yields x.0)
                head
                []
                (λ body. ComesOf connection clock shows head body (Ok given))
                (λ body. IsOutcomeOf L shows read served most since (decision served head body) given)
                (λ body. outcome_of shows head body given)
                x.1,
            answer,
          ),
        )
    exchanged way (Err BodyFailed) x answer = inr (way, inl answer)
    exchanged way (Err OutOfMemory) x answer = inl answer
    exchanged way (Err BellLost) x answer = absurd answer

    guarded : (guard : Option Refusal)
        → MatchOption guard (IsRefusal served.port (declares_too_long head) refused.OutOfMemory response ⊎ Exchanged served served.port)
        (λ refusal. IsRefusal served.port (declares_too_long head) refusal response)
        → MatchOption guard
        (IsRefusal served.port (declares_too_long head) refused.OutOfMemory response
        ⊎ (IsWayOf served head Own
        × (IsRefusal served.port (declares_too_long head) refused.BrokenBody response
        ⊎ IsDecided L shows read served most since yields has hosts head response)))
        (λ refusal. IsRefusal served.port (declares_too_long head) refusal response)
    guarded (Some refusal) x = x
    guarded None (inl x) = inl x
    guarded None (inr x) = exchanged x.0 x.1.0 x.1.1 x.1.2

    own_at_port : (account : S) → service_of connection ≡ account
        → (it : N) → clock_of connection ≡ it → (began : List Entry) → since ≡ began → front.port ≡ served.port
        → arc_value front.hosts ≡ hosts → arc_value (arc_value front.at_desk).side ≡ served
        → IsOwnAnswer clock yields has front head response
        → IsItsOwn L (IsStreamOf service account began) (clock.reads it) served most began yields has hosts head response
    own_at_port account same it is began then at listed sided x =
        let of_side : MatchOption (refusal_of front.port (arc_value front.hosts) head)
        (IsRefusal front.port (declares_too_long head) refused.OutOfMemory response ⊎ Exchanged served front.port)
        (λ refusal. IsRefusal front.port (declares_too_long head) refusal response)
        = subst (λ side. MatchOption (refusal_of front.port (arc_value front.hosts) head)
        (IsRefusal front.port (declares_too_long head) refused.OutOfMemory response ⊎ Exchanged side front.port)
        (λ refusal. IsRefusal front.port (declares_too_long head) refusal response)) sided x in
        let of_hosts : MatchOption (refusal_of front.port hosts head)
        (IsRefusal front.port (declares_too_long head) refused.OutOfMemory response ⊎ Exchanged served front.port)
        (λ refusal. IsRefusal front.port (declares_too_long head) refusal response)
        = subst (λ h. MatchOption (refusal_of front.port h head)
        (IsRefusal front.port (declares_too_long head) refused.OutOfMemory response ⊎ Exchanged served front.port)
        (λ refusal. IsRefusal front.port (declares_too_long head) refusal response)) listed of_side in
        let of_api : MatchOption (refusal_of served.port hosts head)
        (IsRefusal served.port (declares_too_long head) refused.OutOfMemory response ⊎ Exchanged served served.port)
        (λ refusal. IsRefusal served.port (declares_too_long head) refusal response)
        = subst (λ a. MatchOption (refusal_of a hosts head)
        (IsRefusal a (declares_too_long head) refused.OutOfMemory response ⊎ Exchanged served a)
        (λ refusal. IsRefusal a (declares_too_long head) refusal response))
        at of_hosts in
        subst (λ s. IsItsOwn L (IsStreamOf service account s) (clock.reads it) served most s yields has hosts head response) then
        (subst (λ a. IsItsOwn L (IsStreamOf service a since) (clock.reads it) served most since yields has hosts head response) same
        (subst (λ c. IsItsOwn L shows (clock.reads c) served most since yields has hosts head response) is
        (guarded (refusal_of served.port hosts head) of_api)))

    pub at_port : (account : S) → service_of connection ≡ account
        → (it : N) → clock_of connection ≡ it → (began : List Entry) → since ≡ began → front.port ≡ served.port
        → arc_value front.hosts ≡ hosts → arc_value (arc_value front.at_desk).side ≡ served
        → IsAnswer clock yields has front head response
        → IsAnswerAt L (IsStreamOf service account began) (clock.reads it) served most began yields has hosts head response
    at_port account same it is began then at listed sided (inl x) =
        inl (own_at_port account same it is began then at listed sided x)
    at_port account same it is began then at listed sided (inr x) =
        inr (
          subst (λ a. refusal_of a hosts head ≡ None) at (subst (λ h. refusal_of front.port h head ≡ None) listed x.0),
          subst (λ s. IsGivenAtDesk s head response) sided x.1,
        )
