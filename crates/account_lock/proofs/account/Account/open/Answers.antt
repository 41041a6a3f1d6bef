use Rattle.account_lock.proofs.account.Account.open.Goals as goal

pub open-desk-requires-clause-none : goal.open-desk-requires-clause-none
open-desk-requires-clause-none g c = c.root-totals.ensures.totals
