use Rattle.std.specs.Arc.{arc_value}
use Rattle.long_poll.specs.Exchanges.{Awaits, anchored, service_of, shown}
use Rattle.long_poll.specs.Outcomes.{IsStreamOf}
use Rattle.long_poll.specs.Stages.{GivesFrom}
use Rattle.long_poll.proofs.exchange.Exchange.poll_answer.Goals as goal

pub returns-in-Pending-clause-same : goal.returns-in-Pending-clause-same
returns-in-Pending-clause-same g c = λ r h.
    let shared = arc_value c.args.self.now.connection in
    let new : Awaits (shown shared c.poll_render.new.token) c.in-Waiting.ticket r = h in
    let same = rw c.in-Pending.ensures.token at new in
    let old : GivesFrom shared g.N.Clock g.B.Body.yields g.B.Data.Into.converts (IsStreamOf g.S.Service (service_of shared) (anchored shared)) c.args.self.now.stage r =
    rw c.in-Waiting.is same in
    old
