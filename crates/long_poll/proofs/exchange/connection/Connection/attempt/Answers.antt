use Rattle.std.proofs.Common.{refl}
use Rattle.long_poll.proofs.exchange.connection.Connection.attempt.Goals as goal

pub returns-in-Ok : goal.returns-in-Ok
returns-in-Ok g c =
    let at = rw c.clock.ensures at c.moment-now.ensures.read in (
      record {
        reading = at.0;
        read = at.1;
        before = _;
        then = _;
        after = _;
        bell = c.args.bell;
        came = rw (c.service.ensures, c.token-token.ensures, at.2) at c.in-Ok.ensures;
      },
      refl,
    )

pub returns-in-Err-Refused : goal.returns-in-Err-Refused
returns-in-Err-Refused g c =
    let at = rw c.clock.ensures at c.moment-now.ensures.read in (
      record {
        reading = at.0;
        read = at.1;
        before = _;
        then = _;
        after = _;
        bell = c.args.bell;
        came = rw (c.in-Err-Refused.field-0-is, c.service.ensures, c.token-token.ensures, at.2) at c.in-Err-Refused.ensures;
      },
      refl,
      refl,
    )
