use Rattle.std.proofs.Common.{arith, rules}
use Rattle.placement.proofs.Bits.{word_empty, word_lowest}
use Rattle.placement.proofs.env_set.EnvSet.lowest.Goals as goal

pub returns-then-word-ne0-clause-some : goal.returns-then-word-ne0-clause-some
returns-then-word-ne0-clause-some c = word_lowest _ c.loop-index.index c.loop-index.invariant (omega arith) (search rules) (search rules)

pub loop-index-preserved : goal.loop-index-preserved
loop-index-preserved c = word_empty _ c.loop-index.index c.loop-index.invariant (search rules)
