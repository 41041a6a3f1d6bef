use Rattle.replies.proofs.outcomes.timed_out.Goals as goal

pub returns : goal.returns
returns c = rw (c.as_str.ensures.value, c.in_ok-message.ensures.ok, c.timeout_s-seconds.ensures) at c.failure.ensures
