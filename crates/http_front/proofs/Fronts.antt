-- What a front gives answers the request that it was asked.
use Rattle.std.proofs.Common.{◌≡◌, ◌⊎◌, ℕ, Bool, Box, List, Option, Some, None, Result, Ok, IfOk, MatchOption, IsSomeAnd, subst, inl, inr}
use Rattle.std.specs.Arc.{arc_value}
use Rattle.std.specs.declared.alloc.Global.{Global}
use Rattle.decisions.specs.declared.decide.Decide as Decide
use Rattle.futures.specs.Runs.{Runs}
use Rattle.http.specs.Request.{head_of, body_of}
use Rattle.http.specs.declared.request.Parts.{Parts}
use Rattle.http.specs.declared.request.Request.{Request}
use Rattle.http.specs.declared.response.Response.{Response}
use Rattle.http_body.specs.declared.frame.Frame.{Frame}
use Rattle.http_body_util.specs.declared.either.Either.{Either}
use Rattle.http_front.specs.Sent.{SentBody}
use Rattle.http_connection.specs.Written.{Gave}
use Rattle.http_front.specs.Courses.{IsExchangeOf, Takes, TakesItself}
use Rattle.http_front.specs.Exchanged.{ComesTo, IsAnswer, IsOwnAnswer}
use Rattle.http_front.specs.Handing.{IsHandedAnswer, IsHandlerAnswer, IsWayOf}
use Rattle.http_front.specs.Responses.{IsAnswerTo, IsRefusal}
use Rattle.http_front.specs.declared.at_desk.Way.TheVariants as way
use Rattle.http_front.specs.declared.course.Course.{Course}
use Rattle.http_front.specs.declared.course.Course.TheVariants.{Own, Handed, OfHandler}
use Rattle.http_front.specs.declared.front.Front.{Front}
use Rattle.http_front.specs.declared.course.responding.Responding.{Responding}
use Rattle.long_poll.specs.Exchanges.{anchored, service_of}
use Rattle.long_poll.specs.Lengths.{declares_too_long}
use Rattle.long_poll.specs.Outcomes.{IsStreamOf}
use Rattle.long_poll.specs.Stages.{GivesFrom}
use Rattle.long_poll.specs.Standing.{Gives}
use Rattle.long_poll.specs.declared.service.clock.Clock as Clock
use Rattle.long_poll.specs.declared.exchange.connection.Connection.{Connection}
use Rattle.long_poll.specs.declared.exchange.Exchange.{Exchange}
use Rattle.long_poll.specs.declared.exchange.Stage.{Stage}
use Rattle.long_poll.specs.declared.exchange.fault.ExchangeFault.{ExchangeFault}
use Rattle.long_poll.specs.declared.streamed_body.StreamedBody.{StreamedBody}
use Rattle.long_poll.specs.declared.exchange.outcome.Outcome.{Outcome}
use Rattle.long_poll.specs.declared.service.Service as Service
use Rattle.request_guard.specs.Guarding.{refusal_of}
use Rattle.service_port.specs.declared.port.Port.{Port}
use Rattle.request_guard.specs.declared.refusal.Refusal.{Refusal}
use Rattle.request_guard.specs.declared.refusal.Refusal.TheVariants.{OutOfMemory}
use Rattle.usage_ledger.specs.declared.keep.Keep as Keep

module _ {R S D N K L B P E T : Type 0} {service : Service.Ghosts S K L T} {decider : Decide.Ghosts D}
    {keep : Keep.Ghosts K} (clock : Clock.Ghosts N) (yields : B → Runs (Result (Frame P) E))
    (has : P → List ℕ → Type 0) (front : Front R S D N K L T service decider keep) (head : Parts) (body : B)
    (response : Response (Either SentBody (StreamedBody R S T K L))) where
  abbrev Ex : Type 0
  Ex = Exchange R S D N B K L T service decider keep

  abbrev Boxed : Type 0
  Boxed = Box Ex Global

  abbrev Answers : Port × Bool → Type 0
  Answers how =
      (made : Result (Outcome (StreamedBody R S T K L) L) ExchangeFault) × ComesTo clock yields has front head made
      × IsAnswerTo how.0 how.1 made response

  -- of an exchange that is the request's
  of_exchange : (how : Port × Bool) (exchange : Ex) (made : Result (Outcome (StreamedBody R S T K L) L) ExchangeFault)
      → IsExchangeOf front head body exchange → Gives clock yields has exchange made → IsAnswerTo how.0 how.1 made response
      → Answers how
  of_exchange how exchange made is gives answer =
      let there : GivesFrom (arc_value front.connection) clock yields has
      (IsStreamOf service (service_of (arc_value front.connection)) (anchored (arc_value front.connection))) exchange.stage made
      = subst (λ (c : Connection R S D N K L T service decider keep).
      GivesFrom c clock yields has (IsStreamOf service (service_of c) (anchored c)) exchange.stage made) is.0 gives in (
        made,
        (
          body,
          subst (λ (stage : Stage B L). GivesFrom (arc_value front.connection) clock yields has
              (IsStreamOf service (service_of (arc_value front.connection)) (anchored (arc_value front.connection))) stage made) is.1 there,
        ),
        answer,
      )

  -- of what the front took up and its future gave
  pub answer_of : (guard : Option Refusal) (how given_how : Port × Bool) (refusal : Option Refusal) (exchange : Option Boxed)
      → given_how ≡ how
      → MatchOption guard
      (MatchOption exchange (refusal ≡ Some OutOfMemory)
      (λ e. (refusal ≡ None) × IsExchangeOf front head body e.value × IsWayOf (arc_value (arc_value front.at_desk).side) head way.Own))
      (λ r. (refusal ≡ Some r) × (exchange ≡ None))
      → MatchOption refusal
      (IsSomeAnd exchange (λ e. (made : Result (Outcome (StreamedBody R S T K L) L) ExchangeFault)
      × Gives clock yields has e.value made × IsAnswerTo given_how.0 given_how.1 made response))
      (λ r. IsRefusal given_how.0 given_how.1 r response)
      → MatchOption guard (IsRefusal how.0 how.1 OutOfMemory response ⊎ (IsWayOf (arc_value (arc_value front.at_desk).side) head way.Own × Answers how))
      (λ r. IsRefusal how.0 how.1 r response)
  answer_of (Some r) how given_how refusal exchange same took gave =
      subst (λ (a : Port × Bool). IsRefusal a.0 a.1 r response) same
      (subst (λ (o : Option Refusal). MatchOption o
      (IsSomeAnd exchange (λ e. (made : Result (Outcome (StreamedBody R S T K L) L) ExchangeFault)
      × Gives clock yields has e.value made × IsAnswerTo given_how.0 given_how.1 made response))
      (λ r. IsRefusal given_how.0 given_how.1 r response)) took.0 gave)
  answer_of None how given_how refusal None same took gave =
      inl (subst (λ (a : Port × Bool). IsRefusal a.0 a.1 OutOfMemory response) same
      (subst (λ (o : Option Refusal). MatchOption o ⊥ (λ r. IsRefusal given_how.0 given_how.1 r response)) took gave))
  answer_of None how given_how refusal (Some exchange) same took gave =
      let given = subst (λ (o : Option Refusal). MatchOption o
      ((made : Result (Outcome (StreamedBody R S T K L) L) ExchangeFault)
      × Gives clock yields has exchange.value made × IsAnswerTo given_how.0 given_how.1 made response)
      (λ r. IsRefusal given_how.0 given_how.1 r response)) took.0 gave in
      inr (took.2, subst Answers same (of_exchange given_how exchange.value given.0 took.1 given.1 given.2))

-- The responses that a front's futures give.
module _ {R S D N K L B P E T : Type 0} {service : Service.Ghosts S K L T} {decider : Decide.Ghosts D}
    {keep : Keep.Ghosts K} (clock : Clock.Ghosts N) (yields : B → Runs (Result (Frame P) E)) (has : P → List ℕ → Type 0)
    (X : Type 0) (front : Front R S D N K L T service decider keep) where
  abbrev Answer : Type 0
  Answer = Response (Either SentBody (StreamedBody R S T K L))

  abbrev GivenItself : Responding R S D N B K L T service decider keep → Result Answer X → Type 0
  GivenItself future answer = IfOk answer (λ response. MatchOption future.refusal
      (IsSomeAnd future.exchange (λ exchange. (made : Result (Outcome (StreamedBody R S T K L) L) ExchangeFault)
      × Gives clock yields has exchange.value made × IsAnswerTo future.port future.is_unread made response))
      (λ refusal. IsRefusal future.port future.is_unread refusal response))

  abbrev Given : Course R S D N B K L T service decider keep → Result Answer X → Type 0
  Given (Own future) answer = GivenItself future answer
  Given (Handed future) answer = IfOk answer (IsHandedAnswer future.value.is_unread)
  Given (OfHandler future) answer = IfOk answer (IsHandlerAnswer future.value.is_unread)

  -- of one that the service itself answers
  of_own : (head : Parts) (body : B) (response : Answer) (future : Responding R S D N B K L T service decider keep)
      → TakesItself front head body future → GivenItself future (Ok response)
      → IsOwnAnswer clock yields has front head response
  of_own head body response future took gave =
      answer_of clock yields has front head body response (refusal_of front.port (arc_value front.hosts) head)
      (front.port, declares_too_long head) (future.port, future.is_unread) future.refusal
      future.exchange (λ i. (took.0 i, took.1 i)) took.2 gave

  -- of any
  of_any : (head : Parts) (body : B) (response : Answer) (future : Course R S D N B K L T service decider keep)
      → Takes front head body future → Given future (Ok response) → IsAnswer clock yields has front head response
  of_any head body response (Own future) took gave = inl (of_own head body response future took gave)
  of_any head body response (Handed future) took gave =
      inr (took.0, inl (took.1, subst (λ (unread : Bool). IsHandedAnswer unread response) took.2 gave))
  of_any head body response (OfHandler future) took gave =
      inr (took.0, inr (took.1, took.2, subst (λ (unread : Bool). IsHandlerAnswer unread response) took.3 gave))

  pub answers : (head : Parts) (response : Answer)
      → Gave (λ (front : Front R S D N K L T service decider keep) (request : Request B) (future : Course R S D N B K L T service decider keep).
      Takes front (head_of request) (body_of request) future) Given front head response
      → IsAnswer clock yields has front head response
  answers head response x =
      subst (λ (h : Parts). IsAnswer clock yields has front h response) x.head_is
      (of_any (head_of x.request) (body_of x.request) response x.future x.called x.given)
