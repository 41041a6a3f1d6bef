use Rattle.decisions.proofs.Long.{long}
use Rattle.decisions.proofs.received.Received.too_long.Goals as goal

pub returns : goal.returns
returns c = long
