use Rattle.std.proofs.Common.{rules}
use Rattle.std.specs.Arc.{arc_value}
use Rattle.long_poll.specs.Exchanges.{ComesOfCall, anchored, service_of}
use Rattle.long_poll.specs.Outcomes.{IsStreamOf}
use Rattle.long_poll.specs.Stages.{GivesFrom}
use Rattle.futures.specs.Poll.{IfReady, OnPending}
use Rattle.long_poll.proofs.Beginnings.{gives_answer, gives_fault, gives_reply, gives_history, gives_trace, gives_held, holds_held, while_pending, once_ready}
use Rattle.long_poll.proofs.exchange.Exchange.poll_begin.Goals as goal

pub returns-in-Ok-Parked-clause-value : goal.returns-in-Ok-Parked-clause-value
returns-in-Ok-Parked-clause-value g c =
    let shared = arc_value c.args.self.now.connection in
    let came : IfReady c.poll_answer.result (GivesFrom (arc_value c.park.new.self.connection) g.N.Clock g.B.Body.yields g.B.Data.Into.converts (IsStreamOf g.S.Service (service_of (arc_value c.park.new.self.connection)) (anchored (arc_value c.park.new.self.connection))) c.park.new.self.stage) =
    c.poll_answer.ensures.value in
    once_ready c.poll_answer.result
    (λ r h. gives_answer shared g.N.Clock g.B.Body.yields g.B.Data.Into.converts (IsStreamOf g.S.Service (service_of shared) (anchored shared))
    c.args.self.now.stage c.in-Ok-Parked.ticket c.in-Ok-Parked.heard c.in-Ok-Parked.token (search rules) r h)
    (rw (c.park.ensures.stage, c.park.ensures.connection, c.poll_start.ensures.connection) at came)

pub returns-in-Ok-Parked-clause-same : goal.returns-in-Ok-Parked-clause-same
returns-in-Ok-Parked-clause-same g c =
    let shared = arc_value c.args.self.now.connection in
    let later : OnPending c.poll_answer.result ((x : _) → GivesFrom (arc_value c.poll_answer.new.self.connection) g.N.Clock g.B.Body.yields g.B.Data.Into.converts (IsStreamOf g.S.Service (service_of (arc_value c.poll_answer.new.self.connection)) (anchored (arc_value c.poll_answer.new.self.connection))) c.poll_answer.new.self.stage x
    → GivesFrom (arc_value c.park.new.self.connection) g.N.Clock g.B.Body.yields g.B.Data.Into.converts (IsStreamOf g.S.Service (service_of (arc_value c.park.new.self.connection)) (anchored (arc_value c.park.new.self.connection))) c.park.new.self.stage x) =
    c.poll_answer.ensures.same in
    while_pending c.poll_answer.result
    (λ same x h. gives_answer shared g.N.Clock g.B.Body.yields g.B.Data.Into.converts (IsStreamOf g.S.Service (service_of shared) (anchored shared))
    c.args.self.now.stage c.in-Ok-Parked.ticket c.in-Ok-Parked.heard c.in-Ok-Parked.token (search rules) x (same x h))
    (rw (c.park.ensures.stage, c.park.ensures.connection, c.poll_start.ensures.connection) at later)

pub returns-in-Err-clause-value : goal.returns-in-Err-clause-value
returns-in-Err-clause-value g c =
    let shared = arc_value c.args.self.now.connection in
    gives_fault shared g.N.Clock g.B.Body.yields g.B.Data.Into.converts (IsStreamOf g.S.Service (service_of shared) (anchored shared))
    c.args.self.now.stage c.in-Err.fault (search rules)

pub returns-in-Ok-Replied-clause-value : goal.returns-in-Ok-Replied-clause-value
returns-in-Ok-Replied-clause-value g c =
    let shared = arc_value c.args.self.now.connection in
    gives_reply shared g.N.Clock g.B.Body.yields g.B.Data.Into.converts (IsStreamOf g.S.Service (service_of shared) (anchored shared))
    c.args.self.now.stage c.in-Ok-Replied.reply c.in-Ok-Replied.token (search rules)

pub returns-in-Ok-AsksForHistory-clause-value : goal.returns-in-Ok-AsksForHistory-clause-value
returns-in-Ok-AsksForHistory-clause-value g c =
    let shared = arc_value c.args.self.now.connection in
    gives_history shared g.N.Clock g.B.Body.yields g.B.Data.Into.converts (service_of shared) (anchored shared)
    c.args.self.now.stage c.in-Ok-AsksForHistory.from (search rules) c.history.result
    (rw c.poll_start.ensures.connection at c.history.ensures)

pub returns-in-Ok-AsksForTrace-clause-value : goal.returns-in-Ok-AsksForTrace-clause-value
returns-in-Ok-AsksForTrace-clause-value g c =
    let shared = arc_value c.args.self.now.connection in
    gives_trace shared g.N.Clock g.B.Body.yields g.B.Data.Into.converts (service_of shared) (anchored shared)
    c.args.self.now.stage c.in-Ok-AsksForTrace.query (search rules) c.trace.result
    (rw c.poll_start.ensures.connection at c.trace.ensures)

pub returns-in-Ok-HeldBack-clause-again : goal.returns-in-Ok-HeldBack-clause-again
returns-in-Ok-HeldBack-clause-again g c =
    let shared = arc_value c.args.self.now.connection in
    rw (c.yield_now.ensures.pending, c.poll_start.ensures.connection)
    (holds_held shared g.N.Clock g.B.Body.yields g.B.Data.Into.converts
    c.args.self.now.stage c.in-Ok-HeldBack.held (search rules))

pub returns-in-Ok-HeldBack-clause-same : goal.returns-in-Ok-HeldBack-clause-same
returns-in-Ok-HeldBack-clause-same g c =
    let shared = arc_value c.args.self.now.connection in
    rw c.yield_now.ensures.pending
    (λ r h.
    let came : ComesOfCall (arc_value c.poll_start.new.self.connection) g.N.Clock c.in-Ok-HeldBack.held.value.call r = h in
    gives_held shared g.N.Clock g.B.Body.yields g.B.Data.Into.converts (IsStreamOf g.S.Service (service_of shared) (anchored shared))
    c.args.self.now.stage c.in-Ok-HeldBack.held (search rules) r (rw c.poll_start.ensures.connection at came))
