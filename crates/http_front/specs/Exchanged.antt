-- The answer to a request on the connection of a front.
use Rattle.std.specs.Prelude.{◌≡◌, ◌⊎◌, ℕ, List, [], None, Result, MatchOption}
use Rattle.std.specs.Arc.{arc_value}
use Rattle.decisions.specs.declared.decide.Decide as Decide
use Rattle.futures.specs.Runs.{Runs}
use Rattle.http.specs.declared.request.Parts.{Parts}
use Rattle.http.specs.declared.response.Response.{Response}
use Rattle.http_body.specs.declared.frame.Frame.{Frame}
use Rattle.http_body_util.specs.declared.either.Either.{Either}
use Rattle.http_front.specs.Sent.{SentBody}
use Rattle.http_front.specs.Handing.{IsGivenAtDesk, IsWayOf}
use Rattle.http_front.specs.Responses.{IsAnswerTo, IsRefusal}
use Rattle.http_front.specs.declared.at_desk.Way.TheVariants.{Own}
use Rattle.http_front.specs.declared.front.Front.{Front}
use Rattle.long_poll.specs.Exchanges.{Exchanges, anchored, service_of}
use Rattle.long_poll.specs.Lengths.{declares_too_long}
use Rattle.long_poll.specs.Outcomes.{IsStreamOf}
use Rattle.long_poll.specs.declared.service.clock.Clock as Clock
use Rattle.long_poll.specs.declared.exchange.fault.ExchangeFault.{ExchangeFault}
use Rattle.long_poll.specs.declared.streamed_body.StreamedBody.{StreamedBody}
use Rattle.long_poll.specs.declared.exchange.outcome.Outcome.{Outcome}
use Rattle.long_poll.specs.declared.service.Service as Service
use Rattle.request_guard.specs.Guarding.{refusal_of}
use Rattle.request_guard.specs.declared.refusal.Refusal.TheVariants.{OutOfMemory}
use Rattle.usage_ledger.specs.declared.keep.Keep as Keep

-- Of the bodies of requests: which frames each yields, and which bytes the data of a frame has.
module _ {R S D N K L B P E T : Type 0} {service : Service.Ghosts S K L T} {decider : Decide.Ghosts D}
    {keep : Keep.Ghosts K} (clock : Clock.Ghosts N) (yields : B → Runs (Result (Frame P) E))
    (has : P → List ℕ → Type 0) (front : Front R S D N K L T service decider keep) (head : Parts) where
  -- What an exchange of a request with this head, and some body, may come to on the port's connection.
  abbrev pub ComesTo : Result (Outcome (StreamedBody R S T K L) L) ExchangeFault → Type 0
  ComesTo made =
      (came : B) × Exchanges (arc_value front.connection) clock
      (IsStreamOf service (service_of (arc_value front.connection)) (anchored (arc_value front.connection))) has
      (yields came) head [] made

  -- The response that the service itself gives to a request with this head. If the head is refused, it is that of the
  -- refusal. Otherwise it is that of an allocation that failed, or of its exchange, if no handler asks for something with
  -- it.
  abbrev pub IsOwnAnswer : Response (Either SentBody (StreamedBody R S T K L)) → Type 0
  IsOwnAnswer response = MatchOption (refusal_of front.port (arc_value front.hosts) head)
      (IsRefusal front.port (declares_too_long head) OutOfMemory response
      ⊎ (IsWayOf (arc_value (arc_value front.at_desk).side) head Own
      × ((made : Result (Outcome (StreamedBody R S T K L) L) ExchangeFault) × ComesTo made
      × IsAnswerTo front.port (declares_too_long head) made response)))
      (λ refusal. IsRefusal front.port (declares_too_long head) refusal response)

  -- The response to a request with this head: the service itself gives it, or it is given at the desk.
  abbrev pub IsAnswer : Response (Either SentBody (StreamedBody R S T K L)) → Type 0
  IsAnswer response = IsOwnAnswer response
      ⊎ ((refusal_of front.port (arc_value front.hosts) head ≡ None)
      × IsGivenAtDesk (arc_value (arc_value front.at_desk).side) head response)
