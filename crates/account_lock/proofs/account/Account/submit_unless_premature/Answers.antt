use Rattle.account_lock.proofs.account.Account.submit_unless_premature.Goals as goal

pub returns-in-Ok-clause-taken : goal.returns-in-Ok-clause-taken
returns-in-Ok-clause-taken g c = rw c.ring_out.ensures c.in-Ok.ensures.taken
