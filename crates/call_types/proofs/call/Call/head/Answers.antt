use Rattle.call_types.proofs.call.Call.head.Goals as goal

pub returns-in-Withdraw : goal.returns-in-Withdraw
returns-in-Withdraw c = rw c.in-Withdraw.is c.numbered-in-Withdraw.ensures
