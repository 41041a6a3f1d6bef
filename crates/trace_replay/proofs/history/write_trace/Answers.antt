use Rattle.std.proofs.Common.{◌≡◌, ◌∙◌, length, sym, arith}
use Rattle.std.proofs.lemmas.Result.{err_from_is_err_and, on_ok_weaker, IfErr-weaker}
use Rattle.trace_replay.proofs.Lines.{goes_on, stops_here, stops_flushing, stops_ending, ends}
use Rattle.trace_replay.proofs.history.write_trace.Goals as goal

pub returns-in_err-push_line-clause-err : goal.returns-in_err-push_line-clause-err
returns-in_err-push_line-clause-err g c =
    let p = err_from_is_err_and c.from_residual-in_err-push_line.result c.from_residual-in_err-push_line.ensures.1 in
    rw (p.1, p.2) (stops_here _ _ _ _ _ _ c.loop-ticket.invariant.underway)

pub returns-in_err-flush-clause-err : goal.returns-in_err-flush-clause-err
returns-in_err-flush-clause-err g c =
    let p = err_from_is_err_and c.from_residual-in_err-flush.result c.from_residual-in_err-flush.ensures.1 in
    let lost = c.in_err-flush.ensures.err in
    rw (p.1, p.2, lost.0) (stops_flushing _ _ _ _ _ _ _ _ c.loop-ticket.invariant.underway c.in_ok-push_line.ensures.ok lost.1)

pub loop-ticket-preserved : goal.loop-ticket-preserved
loop-ticket-preserved g c = record {
  within = omega (arith, c.loop-ticket-test.true, c.len.ensures.value);
  follows = c.in_ok-push_line.ensures.followed;
  underway = goes_on _ _ _ _ _ _ _ _ _ c.loop-ticket.invariant.underway c.in_ok-push_line.ensures.ok c.in_ok-flush.ensures.ok;
}

pub returns-clause-ok : goal.returns-clause-ok
returns-clause-ok g c =
    let all : c.loop-ticket.ticket ≡ length c.args.book.now.history = omega (arith, c.loop-ticket-test.false, c.len.ensures.value, c.loop-ticket.invariant.within) in
    let wrote = rw c.deref.ensures.value at c.write_whole.ensures.ok in
    on_ok_weaker c.write_whole.result (ends _ _ _ _ _ _ _ all c.loop-ticket.invariant.underway) wrote

pub returns-clause-err : goal.returns-clause-err
returns-clause-err g c =
    IfErr-weaker c.write_whole.result _ _
    (λ e w. rw w.0 (stops_ending _ _ _ _ w.1.0 w.1.1 _ _ _ c.loop-ticket.invariant.underway (sym c.deref.ensures.value ∙ w.1.2) w.1.3))
    c.write_whole.ensures.err
