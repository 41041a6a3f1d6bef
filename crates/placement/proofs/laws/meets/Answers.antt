use Rattle.placement.proofs.Lowest.{place_is, opened_is}
use Rattle.placement.proofs.laws.meets.Goals as goal

pub returns : goal.returns
returns c = record { opened = opened_is; place = place_is }
