use Rattle.std.proofs.Common.{rules, inl, inr, ◌∙◌}
use Rattle.std.specs.declared.alloc.AllocError.{AllocError}
use Rattle.long_poll.proofs.Beginnings.{once_ready}
use Rattle.long_poll.proofs.Tracing.{while_both, fails_now, stops_now, shows_now, shows_first, later}
use Rattle.long_poll.proofs.streamed_body.trace_body.TraceBodyBody.poll_frame.Goals as goal

pub returns-in-Err-clause-value : goal.returns-in-Err-clause-value
returns-in-Err-clause-value g c =
    c.loop.invariant.2 _ _ (fails_now g.S.Service c.loop.self c.loop.self c.loop.invariant.1 c.in-Err.refused)

pub returns-in-Ok-Piece-clause-value : goal.returns-in-Ok-Piece-clause-value
returns-in-Ok-Piece-clause-value g c =
    let found = rw c.in-Ok-Piece.field-0-is at c.in-Ok-Piece.ensures.found in
    c.loop.invariant.2 _ _ (shows_now AllocError g.S.Service c.loop.self c.look.new.self c.loop.invariant.1 c.in-Ok-Piece.piece found)

pub returns-in-Ok-Piece-clause-rest : goal.returns-in-Ok-Piece-clause-rest
returns-in-Ok-Piece-clause-rest g c = λ xs last rest.
    let found = rw c.in-Ok-Piece.field-0-is at c.in-Ok-Piece.ensures.found in
    let same = c.look.ensures.same in
    c.loop.invariant.2 _ _ (shows_first g.S.Service c.loop.self c.look.new.self c.loop.invariant.1
    (same.2 ∙ c.loop.invariant.1) same.0 same.1 c.in-Ok-Piece.piece found xs last rest)

pub returns-in-Ok-Nothing-clause-value : goal.returns-in-Ok-Nothing-clause-value
returns-in-Ok-Nothing-clause-value g c =
    let found = rw c.in-Ok-Nothing.field-0-is at c.in-Ok-Nothing.ensures.found in
    once_ready c.poll_on.result
    (λ o stops. c.loop.invariant.2 _ _ (stops_now g.S.Service c.loop.self c.look.new.self c.loop.invariant.1 found o stops))
    c.poll_on.ensures.value

pub returns-in-Ok-Nothing-clause-same : goal.returns-in-Ok-Nothing-clause-same
returns-in-Ok-Nothing-clause-same g c =
    let found = rw c.in-Ok-Nothing.field-0-is at c.in-Ok-Nothing.ensures.found in
    let same = c.look.ensures.same in
    let goes = same.2 ∙ c.loop.invariant.1 in
    while_both c.poll_on.result
    (λ asked alike xs last rest. c.loop.invariant.2 _ _
    (later g.S.Service c.loop.self c.look.new.self c.loop.invariant.1 goes same.0 same.1 (inl found) xs last
    (later g.S.Service c.look.new.self c.poll_on.new.self goes (alike.2 ∙ goes) alike.0 alike.1 (inr (inr asked)) xs last rest)))
    c.poll_on.ensures.asked c.poll_on.ensures.same

pub loop-preserved : goal.loop-preserved
loop-preserved g c =
    let found = rw c.in-Ok-Passed.field-0-is at c.in-Ok-Passed.ensures.found in
    let same = c.look.ensures.same in (
      search rules,
      same.2 ∙ c.loop.invariant.1,
      λ xs last rest.
          c.loop.invariant.2 _ _ (later g.S.Service c.loop.self c.look.new.self c.loop.invariant.1
          (same.2 ∙ c.loop.invariant.1) same.0 same.1 (inr (inl found)) xs last rest),
    )
