use Rattle.long_poll.specs.Bodies.{most_bytes}
use Rattle.long_poll.proofs.Frames.{taken_behind}
use Rattle.long_poll.proofs.exchange.first_bytes.FirstBytes.add.Goals as goal

pub returns : goal.returns
returns c =
    rw (taken_behind most_bytes c.args.self.now c.args.more c.len.ensures.few)
    (rw (c.as_slice.ensures, c.truncate.ensures, c.len.ensures.value) at c.push.ensures)
