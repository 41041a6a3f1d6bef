use Rattle.decisions.proofs.Long.{long}
use Rattle.decisions.proofs.received.Received.bytes.Goals as goal

pub returns-in-None : goal.returns-in-None
returns-in-None c = rw (← c.self.view_is, c.in-None.is) long
