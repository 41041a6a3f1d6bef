use Rattle.long_poll.proofs.streamed_body.StreamedBodyBody.poll_frame.Goals as goal

pub returns-in-History-clause-value : goal.returns-in-History-clause-value
returns-in-History-clause-value g c = rw (c.in-History.is, ← c.deref_mut.ensures.value) c.poll_frame.ensures.value

pub returns-in-Trace-clause-value : goal.returns-in-Trace-clause-value
returns-in-Trace-clause-value g c = rw (c.in-Trace.is, ← c.deref_mut-in-Trace.ensures.value) c.poll_frame-in-Trace.ensures.value
