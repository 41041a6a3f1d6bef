use Rattle.std.proofs.Common.{ap}
use Rattle.std.proofs.lemmas.Result.{err_from_is_err_and, on_ok_weaker, IfErr-weaker}
use Rattle.script_replay.specs.Steps.{Position}
use Rattle.script_replay.proofs.Feeding.{going_start, going_line, going_rest, stopped_line, stopped_here, stopped_keeping}
use Rattle.script_replay.proofs.player.feed.Goals as goal

pub loop-line-init : goal.loop-line-init
loop-line-init g c = going_start _ _ _ c.requires.pending

pub returns-in_err-keep-clause-stopped : goal.returns-in_err-keep-clause-stopped
returns-in_err-keep-clause-stopped g c =
    let p = err_from_is_err_and c.from_residual.result c.from_residual.ensures.1 in
    rw (p.1, p.2) (stopped_keeping _ _ _ _ c.in-Some.line.now c.in-Some.others.now _ _ _ c.loop-line.invariant c.in-Some.ensures c.in_err-keep.ensures.stopped)

pub returns-in_err-play_line-clause-stopped : goal.returns-in_err-play_line-clause-stopped
returns-in_err-play_line-clause-stopped g c =
    let p = err_from_is_err_and c.from_residual-in_err-play_line.result c.from_residual-in_err-play_line.ensures.1 in
    let kept = c.in_ok-keep.ensures.kept in
    let progress = ap (λ (s : Position). s.progress) kept in
    let line = ap (λ (s : Position). s.line) kept in
    let pending = ap (λ (s : Position). s.pending) kept in
    let stopped = rw (progress, line, c.drop_return.ensures, pending) at c.in_err-play_line.ensures.stopped in
    rw (p.1, p.2) (stopped_line _ _ _ _ c.in-Some.line.now c.in-Some.others.now _ _ _ _ c.loop-line.invariant c.in-Some.ensures stopped)

pub loop-line-preserved : goal.loop-line-preserved
loop-line-preserved g c =
    let kept = c.in_ok-keep.ensures.kept in
    let progress = ap (λ (s : Position). s.progress) kept in
    let line = ap (λ (s : Position). s.line) kept in
    let pending = ap (λ (s : Position). s.pending) kept in
    let played = rw (progress, line, c.drop_return.ensures, pending) at c.in_ok-play_line.ensures.played in
    let next = c.in_ok-play_line.ensures.next in
    let counted = rw line at next.0 in
    rw next.1 (going_line _ _ _ _ c.in-Some.line.now c.in-Some.others.now _ _ _ _ _ c.loop-line.invariant c.in-Some.ensures played counted)

pub returns-clause-ok : goal.returns-clause-ok
returns-clause-ok g c = on_ok_weaker c.keep-2.result (λ kept. rw kept (going_rest _ _ _ _ _ _ c.loop-line.invariant c.in_default.ensures)) c.keep-2.ensures.kept

pub returns-clause-stopped : goal.returns-clause-stopped
returns-clause-stopped g c =
    IfErr-weaker c.keep-2.result _ _ (λ e stopped. stopped_here _ _ _ _ _ _ e c.loop-line.invariant (λ more. stopped _ more)) c.keep-2.ensures.stopped
