use Rattle.headline.proofs.Holding as holding
use Rattle.headline.proofs.laws.never_local.Goals as goal

pub returns : goal.returns
returns c = holding.never_local
