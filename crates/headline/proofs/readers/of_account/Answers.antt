use Rattle.headline.proofs.readers.of_account.Goals as goal

pub returns-clause-headline : goal.returns-clause-headline
returns-clause-headline g c = rw c.stats.ensures.value (c.seen.ensures _ _ _ _ c.stats.ensures.seen)
