use Rattle.std.proofs.Common.{inr}
use Rattle.long_poll.proofs.exchange.connection.Connection.advance_clock.Goals as goal

pub returns : goal.returns
returns g c =
    let moved = rw c.clock.ensures at c.in-Some.ensures.moved in (
      moved.0,
      moved.1,
      inr (
        rw moved.3 at moved.2,
        rw moved.3 at c.in-Some.ensures.few,
        inr (c.in-Err.refused, rw moved.3 at c.in-Err.ensures, c.in_ok-reply-in-Err.ensures),
      ),
    )
