-- What an exchange may return, in its present stage.
use Rattle.std.specs.Prelude.{ℕ, List, Result}
use Rattle.std.specs.Arc.{arc_value}
use Rattle.decisions.specs.declared.decide.Decide as Decide
use Rattle.futures.specs.Runs.{Runs}
use Rattle.http_body.specs.declared.frame.Frame.{Frame}
use Rattle.long_poll.specs.Exchanges.{IsSubmission, anchored, service_of}
use Rattle.long_poll.specs.Outcomes.{IsStreamOf}
use Rattle.long_poll.specs.Stages.{GivesFrom, StartsFrom}
use Rattle.long_poll.specs.declared.service.clock.Clock as Clock
use Rattle.long_poll.specs.declared.exchange.connection.Begun.{Begun}
use Rattle.long_poll.specs.declared.exchange.submission.Submission.{Submission}
use Rattle.long_poll.specs.declared.exchange.Exchange.{Exchange}
use Rattle.long_poll.specs.declared.exchange.fault.ExchangeFault.{ExchangeFault}
use Rattle.long_poll.specs.declared.exchange.outcome.Outcome.{Outcome}
use Rattle.long_poll.specs.declared.service.Service as Service
use Rattle.long_poll.specs.declared.streamed_body.StreamedBody.{StreamedBody}
use Rattle.usage_ledger.specs.declared.keep.Keep as Keep

-- What holds of a submission that an exchange holds back: its call is within the limits of the account's configuration,
-- and its bell can be heard.
abbrev pub Holds : {R S D N B K L T : Type 0} {service : Service.Ghosts S K L T} {decider : Decide.Ghosts D}
    {keep : Keep.Ghosts K} → Exchange R S D N B K L T service decider keep → Submission → Type 0
Holds exchange held = IsSubmission (arc_value exchange.connection) held

module _ {R S D N B K L P E T : Type 0} {service : Service.Ghosts S K L T} {decider : Decide.Ghosts D}
    {keep : Keep.Ghosts K} (clock : Clock.Ghosts N) (yields : B → Runs (Result (Frame P) E))
    (reads : P → List ℕ → Type 0) (exchange : Exchange R S D N B K L T service decider keep) where
  -- What the exchange may return: a reply, a body that shows its account's history or its trace, or a fault.
  abbrev pub Gives : Result (Outcome (StreamedBody R S T K L) L) ExchangeFault → Type 0
  Gives = GivesFrom (arc_value exchange.connection) clock yields reads
      (IsStreamOf service (service_of (arc_value exchange.connection)) (anchored (arc_value exchange.connection)))
      exchange.stage

  -- How far the request has come once its body was collected, or once its call was tried again.
  abbrev pub Starts : Result (Begun L) ExchangeFault → Type 0
  Starts = StartsFrom (arc_value exchange.connection) clock yields reads exchange.stage
