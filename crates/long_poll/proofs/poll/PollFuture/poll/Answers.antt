use Rattle.long_poll.proofs.poll.PollFuture.poll.Goals as goal

pub returns-in-Given-clause-value : goal.returns-in-Given-clause-value
returns-in-Given-clause-value g c = (c.look.new.token, rw c.deref.ensures at c.in-Given.ensures)

pub returns-clause-value : goal.returns-clause-value
returns-clause-value g c = ((c.in-Ready.field-0, c.in-Ready.ensures.value), (c.look.new.token, rw c.deref.ensures at c.in-Waiting.ensures))
