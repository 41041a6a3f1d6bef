use Rattle.usage_ledger.proofs.tally.Tally.made.Goals as goal

-- What is kept says it, of the tally's own field.
pub returns-clause-kept : goal.returns-clause-kept
returns-clause-kept g c = rw (← c.self.view_is) c.made.ensures.step

pub returns-clause-left : goal.returns-clause-left
returns-clause-left g c = rw (← c.self.view_is) c.made.ensures.left

pub returns-clause-notes : goal.returns-clause-notes
returns-clause-notes g c = rw (← c.self.view_is) c.made.ensures.notes
