use Rattle.std.proofs.Common.{◌∙◌, arith}
use Rattle.std.proofs.lemmas.List.{length_push}
use Rattle.entry_blocks.proofs.Kept.{begun}
use Rattle.entry_blocks.proofs.blocks.begin.Goals as goal

pub loop-alloc-preserved : goal.loop-alloc-preserved
loop-alloc-preserved g c =
    let more = begun c.loop-alloc.blocks.items c.in_ok-block.block c.loop-alloc.invariant.0 c.in_ok-block.ensures.items c.in_ok-block.ensures.capacity in
    rw c.in_ok-push.ensures.items
    (more.0, more.1 ∙ c.loop-alloc.invariant.1, omega (arith, c.loop-alloc.invariant.2, length_push c.loop-alloc.blocks.items c.in_ok-block.block))
