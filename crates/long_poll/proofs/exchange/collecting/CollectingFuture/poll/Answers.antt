use Rattle.std.proofs.Common.{rules, Some, Ok, Err}
use Rattle.long_poll.specs.Bodies.{IsNextPiece}
use Rattle.long_poll.specs.declared.body_piece.PieceFault.TheVariants as piece
use Rattle.long_poll.specs.declared.exchange.fault.ExchangeFault.TheVariants.{BodyFailed}
use Rattle.long_poll.proofs.Frames.{collects_within, collects_failure, collects_end, collects_taken, collects_full, collects_frame}
use Rattle.long_poll.proofs.exchange.collecting.CollectingFuture.poll.Goals as goal

pub returns-in-loop-clause-same : goal.returns-in-loop-clause-same
returns-in-loop-clause-same g c = λ r h.
    c.loop.invariant.2 r
    (collects_within g.B.Data.Into.converts (g.B.Body.yields c.loop.self.body) (g.B.Body.yields c.poll_piece.new.body) c.loop.self.held (search rules) r h)

pub returns-in-None-clause-value : goal.returns-in-None-clause-value
returns-in-None-clause-value g c =
    let reads = g.B.Data.Into.converts in
    let source = g.B.Body.yields c.loop.self.body in
    c.loop.invariant.2 c.collected.result (collects_taken reads source c.loop.self.held c.loop.self.held
    (collects_end reads source c.loop.self.held c.collected.ensures.few (search rules)) c.collected.result c.collected.ensures.held)

pub returns-in-Some-Err-BodyFailed-clause-value : goal.returns-in-Some-Err-BodyFailed-clause-value
returns-in-Some-Err-BodyFailed-clause-value g c =
    let failed : IsNextPiece g.B.Data.Into.converts (g.B.Body.yields c.loop.self.body) (g.B.Body.yields c.poll_piece.new.body) (Some (Err piece.BodyFailed)) =
    search rules in
    c.loop.invariant.2 (Err BodyFailed)
    (collects_failure g.B.Data.Into.converts (g.B.Body.yields c.loop.self.body) c.loop.self.held failed.0 failed.1)

pub returns-in-Ok-true-clause-value : goal.returns-in-Ok-true-clause-value
returns-in-Ok-true-clause-value g c =
    let came : IsNextPiece g.B.Data.Into.converts (g.B.Body.yields c.loop.self.body) (g.B.Body.yields c.poll_piece.new.body) (Some (Ok c.in-Some-Ok.piece)) =
    search rules in
    let reads = g.B.Data.Into.converts in
    let source = g.B.Body.yields c.loop.self.body in
    c.loop.invariant.2 c.collected-in-Ok-true.result (collects_taken reads source c.loop.self.held c.take_piece.new.self.held
    (collects_full reads source c.loop.self.held c.take_piece.new.self.held c.in-Some-Ok.piece came.0 came.1 came.2
    c.in-Ok-true.ensures.taken (search rules)) c.collected-in-Ok-true.result c.collected-in-Ok-true.ensures.held)

pub loop-preserved : goal.loop-preserved
loop-preserved g c =
    let came : IsNextPiece g.B.Data.Into.converts (g.B.Body.yields c.loop.self.body) (g.B.Body.yields c.poll_piece.new.body) (Some (Ok c.in-Some-Ok.piece)) =
    search rules in (
      search rules,
      search rules,
      λ r h.
          c.loop.invariant.2 r (collects_frame g.B.Data.Into.converts (g.B.Body.yields c.loop.self.body) (g.B.Body.yields c.take_piece.new.self.body)
          c.loop.self.held c.take_piece.new.self.held c.in-Some-Ok.piece came.0 (search rules) came.1 came.2 c.in-Ok-false.ensures.taken r h),
    )

pub returns-clause-same : goal.returns-clause-same
returns-clause-same g c = rw c.yield_now.ensures.pending c.loop.invariant.2
