use Rattle.std.proofs.Common.{length}
use Rattle.script_replay.specs.Steps.{Going}
use Rattle.script_replay.specs.Views.{stand}
use Rattle.script_replay.proofs.player.feed.Given as goal

abbrev pub invariant-loop-line : goal.invariant-loop-line
invariant-loop-line g l = Going (stand l.fn.player) (stand l.player) l.piece l.rest (g.W.Write.contents l.fn.writer) (g.W.Write.contents l.writer)

abbrev pub decreases-loop-line : goal.decreases-loop-line
decreases-loop-line g l = length l.rest
