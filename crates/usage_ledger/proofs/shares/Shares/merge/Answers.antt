use Rattle.std.proofs.Common.{arith}
use Rattle.usage_ledger.proofs.shares.Shares.merge.Goals as goal

pub invariant_of-self : goal.invariant_of-self
invariant_of-self g c = (omega arith, omega arith, omega arith, omega arith, omega arith)

pub returns : goal.returns
returns g c = rw (c.merge.ensures.amount, c.merge-2.ensures.amount, c.merge-3.ensures.amount, c.merge-4.ensures.amount, ← c.self.view_is, ← c.other.view_is)
