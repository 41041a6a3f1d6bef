use Rattle.call_types.proofs.answer.Throttle.as_str.Goals as goal

pub returns-in-Account : goal.returns-in-Account
returns-in-Account c = rw c.in-Account.is
