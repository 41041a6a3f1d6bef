use Rattle.usage_ledger.proofs.tally.Tally.split.Goals as goal

pub returns-clause-left : goal.returns-clause-left
returns-clause-left g c = rw (c.split.ensures.left, ← c.self.view_is)
