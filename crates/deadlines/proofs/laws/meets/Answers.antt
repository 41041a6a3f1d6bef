use Rattle.deadlines.proofs.Order.{first_is, opened_is}
use Rattle.deadlines.proofs.laws.meets.Goals as goal

pub returns : goal.returns
returns c = record { opened = opened_is; first = first_is }
