use Rattle.std.proofs.Common.{◌*◌, ◌≤◌}
use Rattle.script_replay.specs.Views.{stand}
use Rattle.script_replay.proofs.ReadingOn.{ReadSoFar}
use Rattle.script_replay.proofs.player.replay_by.Given as goal

abbrev pub invariant-loop : goal.invariant-loop
invariant-loop g l = record {
  so_far : ReadSoFar (g.R.Read.remaining l.fn.reader) (g.R.Read.remaining l.reader) (stand l.player)
      (g.W.Write.contents l.fn.writer) (g.W.Write.contents l.writer);
  line : l.player.line ≤ l.counter * 65536;
}
