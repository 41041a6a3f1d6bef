use Rattle.std.proofs.Common.{◌<◌, length, ap, arith, length-take-le}
use Rattle.std.proofs.lemmas.Result.{err_from_is_err_and, on_ok_weaker, IfErr-weaker}
use Rattle.script_replay.specs.Steps.{Position}
use Rattle.script_replay.proofs.ReadingOn.{read_piece, read_kept, read_stopped, read_failed, read_first, read_nothing, read_last, last_stopped}
use Rattle.script_replay.proofs.player.replay_by.Goals.{in-Ok+in_ok-feed-in-Ok, in-Err+else-ne}
use Rattle.script_replay.proofs.player.replay_by.Goals as goal

pub loop-init : goal.loop-init
loop-init g c = record {
  so_far = read_first _ _ _ c.requires.first;
  line = let is = ap (λ (s : Position). s.line) c.requires.first in omega (arith, is);
}

pub returns-in-Ok-eq0-clause-ok : goal.returns-in-Ok-eq0-clause-ok
returns-in-Ok-eq0-clause-ok g c =
    let read = c.in-Ok-eq0.ensures.bytes in
    let zero = c.in-Ok-eq0.field-0-test in
    let so_far = read_nothing _ _ _ _ _ _ _ _ c.loop.invariant.so_far read.0 zero in
    let some : 0 < length c.read.new.buf = omega (arith, c.in-Ok-eq0.ensures.bound, c.loop.auto.piece, c.read.auto, c.requires.room) in
    on_ok_weaker c.finish.result (λ last. read_last _ _ _ _ _ _ _ so_far (read.1 zero some) last) c.finish.ensures.ok

pub returns-in-Ok-eq0-clause-stopped : goal.returns-in-Ok-eq0-clause-stopped
returns-in-Ok-eq0-clause-stopped g c =
    let read = c.in-Ok-eq0.ensures.bytes in
    let zero = c.in-Ok-eq0.field-0-test in
    let so_far = read_nothing _ _ _ _ _ _ _ _ c.loop.invariant.so_far read.0 zero in
    let some : 0 < length c.read.new.buf = omega (arith, c.in-Ok-eq0.ensures.bound, c.loop.auto.piece, c.read.auto, c.requires.room) in
    IfErr-weaker c.finish.result _ _ (λ e stopped. last_stopped _ _ _ _ _ _ e so_far (read.1 zero some) stopped) c.finish.ensures.stopped

pub returns-in_err-feed-in-Ok-clause-stopped : goal.returns-in_err-feed-in-Ok-clause-stopped
returns-in_err-feed-in-Ok-clause-stopped g c =
    let p = err_from_is_err_and c.from_residual.result c.from_residual.ensures.1 in
    rw (p.1, p.2) (read_stopped _ _ _ _ _ _ _ _ _ c.loop.invariant.so_far c.in-Ok.ensures.bytes.0 c.in_err-feed-in-Ok.ensures.stopped)

pub returns-then-ne-clause-stopped : goal.returns-then-ne-clause-stopped
returns-then-ne-clause-stopped g c = read_failed _ _ _ _ _ (read_kept _ _ _ _ _ _ c.loop.invariant.so_far c.in-Err.ensures.bytes)

pub loop-preserved : goal.loop-preserved
loop-preserved g c = elim c.match-read.branch [
  | in-Ok+in_ok-feed-in-Ok w ↦ rw (w.player-is, w.writer-is) (
      let going = w.in_ok-feed-in-Ok.ensures.ok in record {
        so_far = read_piece _ _ _ _ _ _ _ _ _ c.loop.invariant.so_far w.in-Ok.ensures.bytes.0 going;
        line =
            omega
            (arith, c.loop.invariant.line, going.few, going.counted, length-take-le w.in-Ok.n c.read.new.buf, w.in-Ok.ensures.bound, c.loop.auto.piece, c.requires.small);
      })
  | in-Err+else-ne w ↦ rw (w.player-is, w.writer-is) (record {
    so_far = read_kept _ _ _ _ _ _ c.loop.invariant.so_far w.in-Err.ensures.bytes;
    line = omega (arith, c.loop.invariant.line);
  })
]

pub returns-clause-stopped : goal.returns-clause-stopped
returns-clause-stopped g c = read_failed _ _ _ _ _ c.loop.invariant.so_far
