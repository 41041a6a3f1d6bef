use Rattle.std.proofs.Common.{refl}
use Rattle.long_poll.proofs.exchange.connection.Connection.submit_at_reading.Goals as goal

pub returns-in-Ok-clause-attempt : goal.returns-in-Ok-clause-attempt
returns-in-Ok-clause-attempt g c =
    let at = rw c.clock.ensures at c.moment-now.ensures.read in (
      record {
        reading = at.0;
        read = at.1;
        before = _;
        then = _;
        after = _;
        bell = c.args.bell;
        came = rw (c.service.ensures, c.token-token.ensures, at.2) at c.in-Ok.ensures;
      },
      refl,
    )

pub returns-in-Err-clause-attempt : goal.returns-in-Err-clause-attempt
returns-in-Err-clause-attempt g c =
    let at = rw c.clock.ensures at c.moment-now.ensures.read in (
      record {
        reading = at.0;
        read = at.1;
        before = _;
        then = _;
        after = _;
        bell = c.args.bell;
        came = rw (c.service.ensures, c.token-token.ensures, at.2) at c.in-Err.ensures;
      },
      refl,
      refl,
    )
