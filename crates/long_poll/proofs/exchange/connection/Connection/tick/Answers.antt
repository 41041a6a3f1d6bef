use Rattle.std.proofs.Common.{refl}
use Rattle.long_poll.proofs.exchange.connection.Connection.tick.Goals as goal

pub returns-in-Err : goal.returns-in-Err
returns-in-Err g c = (
  record {
    before = _;
    then = _;
    after = _;
    came = rw (c.service.ensures, c.token-token.ensures) at c.in-Err.ensures;
  },
  refl,
)
