use Rattle.call_types.proofs.answer.Reason.as_str.Goals as goal

pub returns-in-Timeout : goal.returns-in-Timeout
returns-in-Timeout c = rw c.in-Timeout.is
