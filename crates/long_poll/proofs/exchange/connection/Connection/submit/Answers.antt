use Rattle.std.proofs.Common.{ap, ◌∙◌}
use Rattle.long_poll.specs.Ringing.{rings_at}
use Rattle.long_poll.proofs.exchange.connection.Connection.submit.Goals as goal

pub returns-in-Taken-clause-ok : goal.returns-in-Taken-clause-ok
returns-in-Taken-clause-ok g c =
    let parked = rw c.in-Taken.is at c.attempt_within.ensures.attempt in
    (parked.0, ap rings_at parked.1 ∙ c.requires.1)

pub returns-in_ok-reply-in-Refused-clause-ok : goal.returns-in_ok-reply-in-Refused-clause-ok
returns-in_ok-reply-in-Refused-clause-ok g c = (
  c.args.submission.bell,
  c.in-Refused.refused,
  rw c.in-Refused.is at c.attempt_within.ensures.attempt,
  rw c.is_invoke-is_invoke.ensures at c.in_ok-reply-in-Refused.ensures,
)
