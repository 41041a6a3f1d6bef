-- The bodies that show a history and its trace.
use Rattle.std.specs.Prelude.{◌≡◌, ℕ, true, List, Option, None}
use Rattle.std.specs.Arc.{arc_value}
use Rattle.call_types.specs.declared.call.Entry.{Entry}
use Rattle.decisions.specs.declared.decide.Shown.{Shown}
use Rattle.decisions.specs.declared.decide.Shown.TheVariants as shown
use Rattle.lambda_wire.specs.declared.reply.Reply.{Reply as Replied}
use Rattle.long_poll.specs.HistoryFrames.{first_stage}
use Rattle.long_poll.specs.TraceFrames.{IsTraceFrom}
use Rattle.long_poll.specs.Views.{followers_reply}
use Rattle.long_poll.specs.declared.streamed_body.history_body.HistoryBody.{HistoryBody}
use Rattle.long_poll.specs.declared.exchange.outcome.Outcome.{Outcome}
use Rattle.long_poll.specs.declared.exchange.outcome.Outcome.TheVariants.{Reply, History, Trace}
use Rattle.long_poll.specs.declared.service.Service as Service
use Rattle.long_poll.specs.declared.streamed_body.StreamedBody.{StreamedBody}
use Rattle.long_poll.specs.declared.streamed_body.StreamedBody.TheVariants as streamed

-- The body shows a service's history, whole or from the entry of a ticket on, to a token that has seen this beginning of
-- it.
abbrev pub ShowsFrom : {R S K L : Type 0} → S → List Entry → Option ℕ → HistoryBody R S K L → Type 0
ShowsFrom s since from body =
    (arc_value body.service ≡ s) × (body.stage ≡ first_stage from) × (body.rest ≡ None) × (body.token ≡ since)

-- The reply turns away a request to follow the trace.
abbrev pub IsFull : Shown → Replied → Type 0
IsFull (shown.History from) reply = ⊥
IsFull (shown.Trace query) reply = (query.follow ≡ true) × (reply ≡ followers_reply)
IsFull shown.Stats reply = ⊥
IsFull shown.Environments reply = ⊥
IsFull (shown.Reservation f) reply = ⊥
IsFull shown.Version reply = ⊥

module _ {R S K L T : Type 0} (service : Service.Ghosts S K L T) (s : S) (since : List Entry) where
  -- The body shows the history, or its trace, as is asked for. Nothing else is streamed.
  abbrev pub IsStreamOf : Shown → StreamedBody R S T K L → Type 0
  IsStreamOf (shown.History from) (streamed.History body) = ShowsFrom s since from body.value
  IsStreamOf (shown.History from) (streamed.Trace body) = ⊥
  IsStreamOf (shown.Trace query) (streamed.History body) = ⊥
  IsStreamOf (shown.Trace query) (streamed.Trace body) = IsTraceFrom service s since query body.value
  IsStreamOf shown.Stats body = ⊥
  IsStreamOf shown.Environments body = ⊥
  IsStreamOf (shown.Reservation f) body = ⊥
  IsStreamOf shown.Version body = ⊥

  -- The outcome is a body that shows the history.
  abbrev pub IsHistoryOf : Option ℕ → Outcome (StreamedBody R S T K L) L → Type 0
  IsHistoryOf from (Reply reply token) = ⊥
  IsHistoryOf from (History body) = IsStreamOf (shown.History from) body
  IsHistoryOf from (Trace body) = ⊥

  -- The outcome is a body that shows the trace; or, if it is to be followed, the reply that as many connections follow it
  -- as may.
  abbrev pub IsTraceOf : Shown → Outcome (StreamedBody R S T K L) L → Type 0
  IsTraceOf asked (Reply reply token) = IsFull asked reply
  IsTraceOf asked (History body) = ⊥
  IsTraceOf asked (Trace body) = IsStreamOf asked body
