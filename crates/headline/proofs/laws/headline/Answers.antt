use Rattle.headline.proofs.Holding.{holds}
use Rattle.headline.proofs.laws.headline.Goals as goal

pub returns : goal.returns
returns c = holds
