-- What was written to a connection that a thread attended.
use Rattle.std.specs.Prelude.{◌≡◌, ℕ, List, Result, Ok, Err}
use Rattle.std.specs.Arc.{arc_value}
use Rattle.account_lock.specs.declared.account.Account.{Account}
use Rattle.call_types.specs.declared.call.Entry.{Entry}
use Rattle.futures.specs.Runs.{Runs}
use Rattle.http_body.specs.declared.frame.Frame.{Frame}
use Rattle.http_body_util.specs.declared.either.Either.{Either}
use Rattle.http_front.specs.Sent.{SentBody}
use Rattle.http_connection.specs.Written.{Written, outcome_of}
use Rattle.http_connection.specs.Wires.{name_of}
use Rattle.http_connection.specs.declared.event_loop.Ended.{Ended}
use Rattle.http_connection.specs.declared.wire.Wire.{Wire}
use Rattle.http_front.specs.Answered.{IsAnswerAt}
use Rattle.http_front.specs.declared.common.Common.{Common}
use Rattle.http_routes.specs.Decisions.{Served}
use Rattle.long_poll.specs.Outcomes.{IsStreamOf}
use Rattle.long_poll.specs.declared.service.bell.OneShotBell.{OneShotBell}
use Rattle.long_poll.specs.declared.service.clock.Clock as Clock
use Rattle.long_poll.specs.declared.service.Service as Service
use Rattle.long_poll.specs.declared.streamed_body.StreamedBody.{StreamedBody}
use Rattle.socket_loop.specs.Halves.{name_of_unused}
use Rattle.socket_loop.specs.declared.unused.Unused.{Unused}

-- The account is a service; the bodies of responses and those of requests yield frames, and the data of a frame has
-- bytes.
module _ {R S N K L T B P X E : Type 0} (service : Service.Ghosts (Account S OneShotBell) K L T) (clock : Clock.Ghosts N)
    (sends : Either SentBody (StreamedBody R (Account S OneShotBell) T K L) → Runs (Result (Frame P) X))
    (yields : B → Runs (Result (Frame P) E)) (has : P → List ℕ → Type 0) (common : Common S N)
    (served : Served) (most : ℕ) (since : List Entry) (name : ℕ) where
  -- A connection at this port, over the socket of this name, came to this. It is the same socket, and each response that
  -- it took answers its request: as this port does within this limit, with the account, the clock and the hosts that the
  -- threads have in common, in a history that continues the beginning of the account's own which was seen before the
  -- connection began. Or it was closed before anything was written to it.
  abbrev pub IsServed : Result (Ended Wire) Unused → Type 0
  IsServed (Ok ended) = (name_of ended.io ≡ name) × Written sends has
      (IsAnswerAt L (IsStreamOf service (arc_value (arc_value common.shared).service) since)
      (clock.reads (arc_value common.shared).clock)
      served most since yields has (arc_value common.hosts))
      ended.io (outcome_of ended.outcome)
  IsServed (Err unused) = name_of_unused unused ≡ name
