use Rattle.std.proofs.lemmas.Result.{err_from_is_err_and, IfErr-weaker}
use Rattle.trace_replay.proofs.Scripts.{stops_reading, stops_writing}
use Rattle.trace_replay.proofs.replay.trace.Goals as goal

pub returns-in_err-book-clause-stopped : goal.returns-in_err-book-clause-stopped
returns-in_err-book-clause-stopped g c =
    let p = err_from_is_err_and c.from_residual.result c.from_residual.ensures.1 in
    rw (p.1, p.2) (stops_reading _ _ _ _ _ c.in_err-book.ensures.stopped)

pub returns-clause-stopped : goal.returns-clause-stopped
returns-clause-stopped g c =
    IfErr-weaker c.write_trace.result _ _ (λ e failed. stops_writing _ _ _ _ _ _ e c.in_ok-book.ensures.ok failed) c.write_trace.ensures.err
