use Rattle.std.proofs.Common.{◌≤◌, ◌<◌, ◌*◌, length}
use Rattle.deadlines.specs.Tree.{IsMendedBut}
use Rattle.deadlines.proofs.due.mend_above.Given as goal

abbrev pub invariant-loop-node : goal.invariant-loop-node
invariant-loop-node l = IsMendedBut l.deadlines l.firsts l.node × (1 ≤ l.node) × (l.node < 2 * length l.deadlines)

abbrev pub decreases-loop-node : goal.decreases-loop-node
decreases-loop-node l = l.node
