use Rattle.futures.specs.Task.{Keeps}
use Rattle.long_poll.specs.Bodies.{Collects}
use Rattle.long_poll.proofs.exchange.collecting.CollectingFuture.poll.Given as goal

abbrev pub invariant-loop : goal.invariant-loop
invariant-loop g l =
    g.B.Body.can_poll l.self.body × Keeps l.initial.cx l.cx
    × ((r : _) → Collects g.B.Data.Into.converts (g.B.Body.yields l.self.body) l.self.held r
    → Collects g.B.Data.Into.converts (g.B.Body.yields l.initial.self.body) l.initial.self.held r)
