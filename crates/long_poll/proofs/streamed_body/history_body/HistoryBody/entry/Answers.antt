use Rattle.long_poll.proofs.streamed_body.history_body.HistoryBody.entry.Goals as goal

pub returns-in_default-clause-value : goal.returns-in_default-clause-value
returns-in_default-clause-value g c = rw (c.in_default.is, c.deref.ensures) at c.in_ok-text.ensures

pub returns-clause-value : goal.returns-clause-value
returns-clause-value g c = (c.in-Some.text, c.in_ok-frame.ensures, rw (c.in-Some.is, c.deref.ensures) at c.in_ok-text.ensures)
