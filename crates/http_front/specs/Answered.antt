-- The answer to a request at a port of the service: at a port, in a configuration, with the salt of its identifiers.
-- `most` is the limit of the account, the greatest number of entries of its history.
use Rattle.std.specs.Prelude.{◌≡◌, ◌⊎◌, ℕ, true, List, [], Option, None, Result, MatchOption}
use Rattle.account_book.specs.Reached.{IsReached}
use Rattle.account_lock.specs.Shown.{IsTaken}
use Rattle.arn_ids.specs.declared.config.Config.{Config}
use Rattle.call_model.specs.Counts.{stats}
use Rattle.call_model.specs.Limits.{reservation}
use Rattle.call_types.specs.declared.call.Call.TheVariants.{Tick}
use Rattle.call_types.specs.declared.call.Entry.{Entry}
use Rattle.decisions.specs.declared.decide.Decision.{Decision}
use Rattle.decisions.specs.declared.decide.Decision.TheVariants as decided
use Rattle.decisions.specs.declared.decide.TraceQuery.{TraceQuery}
use Rattle.decisions.specs.declared.decide.Shown.{Shown}
use Rattle.decisions.specs.declared.decide.Shown.TheVariants as shown
use Rattle.futures.specs.Runs.{Runs}
use Rattle.http.specs.declared.request.Parts.{Parts}
use Rattle.http.specs.declared.response.Response.{Response}
use Rattle.http_body.specs.declared.frame.Frame.{Frame}
use Rattle.http_body_util.specs.declared.either.Either.{Either}
use Rattle.http_front.specs.Sent.{SentBody}
use Rattle.http_front.specs.Handing.{IsGivenAtDesk, IsWayOf}
use Rattle.http_front.specs.Responses.{IsResponseTo, IsRefusal}
use Rattle.http_front.specs.declared.at_desk.Way.TheVariants.{Own}
use Rattle.http_routes.specs.Decisions.{Served, decision}
use Rattle.lambda_wire.specs.declared.reply.Reply.{Reply}
use Rattle.long_poll.specs.Clocks.{IsClockReply}
use Rattle.long_poll.specs.Exchanges.{IsOfBody}
use Rattle.long_poll.specs.Lengths.{declares_too_long}
use Rattle.long_poll.specs.Replies.{IsBeginning, IsReplyAt, IsRefusalOf}
use Rattle.long_poll.specs.Views.{stats_reply, environments_reply, followers_reply, reservation_reply, version_reply}
use Rattle.long_poll.specs.declared.exchange.outcome.Outcome.{Outcome}
use Rattle.long_poll.specs.declared.exchange.outcome.Outcome.TheVariants as outcome
use Rattle.request_guard.specs.Guarding.{refusal_of}
use Rattle.request_guard.specs.declared.refusal.Refusal.TheVariants.{BrokenBody, OutOfMemory}
use Rattle.trace.specs.EnvironmentObject.{environments_text}

-- In what follows, `reads` says which readings the clock of the service gives, and `since` is a beginning of the
-- account's history, which was seen before.
module _ (reads : ℕ → Type 0) (config : Config) (most salt : ℕ) (since : List Entry) where
  -- A Tick was taken at a moment, and is the newest entry of this history: everything that was due then has expired in
  -- it.
  abbrev pub IsTicked : List Entry → ℕ → Type 0
  IsTicked h now = (ticket : ℕ) × IsTaken config most since now Tick ticket h

  -- A Tick was refused in this history, which continues what was seen before, and the reply says why.
  abbrev pub IsTurnedAway : List Entry → ℕ → Reply → Type 0
  IsTurnedAway h now reply = IsBeginning since h × IsRefusalOf config most Tick reply h

  -- Calls led to this history, which continues what was seen before.
  abbrev pub IsLater : List Entry → Type 0
  IsLater h = IsBeginning since h × IsReached config most h

  -- The reply to a decision: that of the call, or of why the call was not taken; the reply that was decided; what is to
  -- be shown; or what the clock then shows. If a trace is to be followed, it may say that as many connections follow it
  -- as may. The history is the one that it is of, if it is of one; for an advance of the clock, that of its Tick. It
  -- continues what was seen before.
  abbrev pub IsReplyTo : Decision → Reply → List Entry → Type 0
  IsReplyTo (decided.Submit call) reply h = IsReplyAt config most salt since call reply h
  IsReplyTo (decided.Reply own) reply h = reply ≡ own
  IsReplyTo (decided.Show shown.Stats) reply h = IsLater h × (reply ≡ stats_reply (stats config h))
  IsReplyTo (decided.Show (shown.History from)) reply h = ⊥
  IsReplyTo (decided.Show (shown.Trace query)) reply h = (query.follow ≡ true) × (reply ≡ followers_reply)
  IsReplyTo (decided.Show shown.Environments) reply h =
      IsLater h × (reply ≡ environments_reply (environments_text config salt h))
  IsReplyTo (decided.Show (shown.Reservation f)) reply h =
      IsLater h × (reply ≡ reservation_reply (reservation config h f))
  IsReplyTo (decided.Show shown.Version) reply h = reply ≡ version_reply
  IsReplyTo (decided.Clock request) reply h = IsClockReply reads (IsTicked h) (IsTurnedAway h) request reply

-- In what follows, `shows` says which bodies show what is asked for, the account's history or its trace.
module _ {H : Type 0} (L : Type 0) (shows : Shown → H → Type 0) (reads : ℕ → Type 0) (served : Served) (most : ℕ)
    (since : List Entry) where
  -- The outcome of a decision: a reply, or the history or its trace if that is to be shown.
  abbrev pub IsOutcomeOf : Decision → Outcome H L → Type 0
  IsOutcomeOf made (outcome.Reply reply token) = IsReplyTo reads served.config most served.salt since made reply token
  IsOutcomeOf made (outcome.History body) =
      (from : Option ℕ) × (made ≡ decided.Show (shown.History from)) × shows (shown.History from) body
  IsOutcomeOf made (outcome.Trace body) =
      (query : TraceQuery) × (made ≡ decided.Show (shown.Trace query)) × shows (shown.Trace query) body

  -- Of the bodies of requests: which frames each yields, and which bytes the data of a frame has.
  module _ {B P E : Type 0} (yields : B → Runs (Result (Frame P) E)) (has : P → List ℕ → Type 0)
      (hosts : List ℕ) (head : Parts) where
    -- The response is that to the decision, at the port, on a request with this head and the body that came.
    abbrev pub IsDecided : Response (Either SentBody H) → Type 0
    IsDecided response =
        (came : B) × (given : Outcome H L)
        × IsOfBody has (yields came) head [] (λ body. IsOutcomeOf (decision served head body) given)
        × IsResponseTo (declares_too_long head) given response

    -- The response that the service itself gives to a request with this head at the port. If the head is refused, it is
    -- that of the refusal. Otherwise it is that of an allocation that failed; or, if no handler asks for something with
    -- it, that of a body that failed, or of the decision.
    abbrev pub IsItsOwn : Response (Either SentBody H) → Type 0
    IsItsOwn response = MatchOption (refusal_of served.port hosts head)
        (IsRefusal served.port (declares_too_long head) OutOfMemory response
        ⊎ (IsWayOf served head Own
        × (IsRefusal served.port (declares_too_long head) BrokenBody response ⊎ IsDecided response)))
        (λ refusal. IsRefusal served.port (declares_too_long head) refusal response)

    -- The response to a request with this head at the port. The service itself gives it; or the head is not refused, and
    -- it is given at the desk: the request is one that may be handed over, or a handler's own.
    abbrev pub IsAnswerAt : Response (Either SentBody H) → Type 0
    IsAnswerAt response =
        IsItsOwn response ⊎ ((refusal_of served.port hosts head ≡ None) × IsGivenAtDesk served head response)
