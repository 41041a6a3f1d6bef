use Rattle.std.proofs.Common.{arith}
use Rattle.std.proofs.lemmas.Grind.{div_ceil_times}
use Rattle.entry_blocks.proofs.blocks.Blocks.reserve.Goals as goal

-- As many blocks as hold what is wanted.
pub invariant_of-self-2 : goal.invariant_of-self-2
invariant_of-self-2 g c =
    let wanted = rw c.in_ok-wanted.ensures.ok_part at c.checked_add.ensures in
    record {
      are_blocks = c.begin.ensures.are_blocks;
      count_is = rw c.begin.ensures.items c.self.invariant.count_is;
      roomy = omega (arith, c.in_ok-begin.ensures.enough, div_ceil_times c.in_ok-wanted.wanted 1024 (omega arith));
      countable = omega arith;
    }
