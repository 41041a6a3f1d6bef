use Rattle.std.specs.Arc.{arc_value}
use Rattle.long_poll.specs.Exchanges.{anchored, service_of}
use Rattle.long_poll.specs.Outcomes.{IsStreamOf}
use Rattle.long_poll.specs.Stages.{GivesFrom}
use Rattle.long_poll.proofs.Beginnings.{exchanges_later}
use Rattle.long_poll.proofs.exchange.Exchange.poll_start.Goals as goal

pub returns-in-Pending-clause-same : goal.returns-in-Pending-clause-same
returns-in-Pending-clause-same g c = λ r h.
    let shared = arc_value c.args.self.now.connection in
    let old : GivesFrom shared g.N.Clock g.B.Body.yields g.B.Data.Into.converts (IsStreamOf g.S.Service (service_of shared) (anchored shared)) c.args.self.now.stage r =
    rw c.in-Collecting.is
    (exchanges_later shared g.N.Clock g.B.Body.yields g.B.Data.Into.converts (IsStreamOf g.S.Service (service_of shared) (anchored shared)) c.in-Collecting.parts c.poll.new.self.body c.in-Collecting.body.body
    c.poll.new.self.held c.in-Collecting.body.held c.in-Pending.ensures.same r h) in
    old
