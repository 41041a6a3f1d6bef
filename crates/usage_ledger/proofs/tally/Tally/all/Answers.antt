use Rattle.std.proofs.Common.{rules}
use Rattle.usage_ledger.proofs.tally.Tally.all.Goals as goal

pub returns : goal.returns
returns g c = rw c.empty.ensures (search rules)
