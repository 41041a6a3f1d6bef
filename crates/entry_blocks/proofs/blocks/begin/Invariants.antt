use Rattle.std.proofs.Common.{◌≡◌, ◌-◌, ◌≤◌, length}
use Rattle.entry_blocks.specs.Rows.{joined, AreBlocks}
use Rattle.entry_blocks.proofs.blocks.begin.Given as goal

abbrev pub invariant-loop-alloc : goal.invariant-loop-alloc
invariant-loop-alloc g l = AreBlocks l.blocks.items × (joined l.blocks.items ≡ joined l.fn.blocks.items) × (length l.fn.blocks.items ≤ length l.blocks.items)

abbrev pub decreases-loop-alloc : goal.decreases-loop-alloc
decreases-loop-alloc g l = l.wanted - length l.blocks.items
