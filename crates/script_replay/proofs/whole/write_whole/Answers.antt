use Rattle.std.proofs.lemmas.List.{take_rest}
use Rattle.script_replay.proofs.Written.{wrote_more, wrote_kept}
use Rattle.script_replay.proofs.whole.write_whole.Goals.{in-Ok, in-Err+else-ne}
use Rattle.script_replay.proofs.whole.write_whole.Goals as goal

pub loop-preserved : goal.loop-preserved
loop-preserved g c = elim c.match-write.branch [
  | in-Ok w ↦ rw (w.rest-is, take_rest) (wrote_more _ _ _ _ _ w.in-Ok.n c.loop.invariant w.in-Ok.ensures.bytes)
  | in-Err+else-ne w ↦ rw w.rest-is (wrote_kept _ _ _ _ _ c.loop.invariant w.in-Err.ensures.bytes)
]
