-- The course of a request on a port.
use Rattle.std.specs.Prelude.{◌≡◌, true, [], Some, None, MatchOption}
use Rattle.std.specs.Arc.{arc_value}
use Rattle.decisions.specs.declared.decide.Decide as Decide
use Rattle.http.specs.declared.request.Parts.{Parts}
use Rattle.http_front.specs.Handing.{IsWayOf, asks}
use Rattle.http_front.specs.declared.at_desk.Way.TheVariants as way
use Rattle.http_front.specs.declared.course.Course.{Course}
use Rattle.http_front.specs.declared.course.Course.TheVariants as answers
use Rattle.http_front.specs.declared.front.Front.{Front}
use Rattle.http_front.specs.declared.course.responding.Responding.{Responding}
use Rattle.http_routes.specs.Decisions.{Served}
use Rattle.http_routes.specs.Handing.{hands_over, is_own}
use Rattle.long_poll.specs.Lengths.{declares_too_long}
use Rattle.long_poll.specs.declared.exchange.Exchange.{Exchange}
use Rattle.long_poll.specs.declared.exchange.Stage.TheVariants.{Collecting}
use Rattle.long_poll.specs.declared.service.Service as Service
use Rattle.request_guard.specs.Guarding.{refusal_of}
use Rattle.request_guard.specs.declared.refusal.Refusal.TheVariants.{OutOfMemory}
use Rattle.usage_ledger.specs.declared.keep.Keep as Keep

module _ {R S D N B K L T : Type 0} {service : Service.Ghosts S K L T} {decider : Decide.Ghosts D}
    {keep : Keep.Ghosts K} (front : Front R S D N K L T service decider keep) (head : Parts) (body : B) where
  -- The exchange is that of this request, on the port's connection.
  abbrev pub IsExchangeOf : Exchange R S D N B K L T service decider keep → Type 0
  IsExchangeOf exchange =
      (arc_value exchange.connection ≡ arc_value front.connection)
      × (exchange.stage ≡ Collecting head
      (record { alloc = (arc_value (arc_value front.connection).shared).alloc; body = body; held = [] })
      (declares_too_long head))

  -- The port at which requests are handed over.
  abbrev pub side : Served
  side = arc_value (arc_value front.at_desk).side

  -- What becomes of a request that the service itself answers: it has an exchange, and then no handler asks for something
  -- with it; or it is refused because an allocation fails. Both are answered in the form of the port's API. If the head
  -- declares a body that is too long, the body is left unread, and the answer is the connection's last.
  abbrev pub IsAnswering : Responding R S D N B K L T service decider keep → Type 0
  IsAnswering future =
      (future.port ≡ front.port) × (future.is_unread ≡ declares_too_long head)
      × MatchOption future.exchange (future.refusal ≡ Some OutOfMemory)
      (λ exchange. (future.refusal ≡ None) × IsExchangeOf exchange.value × IsWayOf side head way.Own)

  -- The same, or its head is refused: then it has that refusal and no exchange, so it never becomes a call.
  abbrev pub TakesItself : Responding R S D N B K L T service decider keep → Type 0
  TakesItself future =
      (future.port ≡ front.port) × (future.is_unread ≡ declares_too_long head)
      × MatchOption (refusal_of front.port (arc_value front.hosts) head)
      (MatchOption future.exchange (future.refusal ≡ Some OutOfMemory)
      (λ exchange. (future.refusal ≡ None) × IsExchangeOf exchange.value × IsWayOf side head way.Own))
      (λ refusal. (future.refusal ≡ Some refusal) × (future.exchange ≡ None))

  -- What becomes of a request: the service itself answers it; or its head is not refused, and it may be handed over, or
  -- is a handler's own.
  abbrev pub Takes : Course R S D N B K L T service decider keep → Type 0
  Takes (answers.Own future) = TakesItself future
  Takes (answers.Handed future) =
      (refusal_of front.port (arc_value front.hosts) head ≡ None) × (hands_over side head ≡ true)
      × (future.value.is_unread ≡ declares_too_long head)
  Takes (answers.OfHandler future) =
      (refusal_of front.port (arc_value front.hosts) head ≡ None)
      × (is_own side head ≡ true) × (asks head ≡ true)
      × (future.value.is_unread ≡ declares_too_long head)
