use Rattle.call_model.specs.Isolation.{IsTimelySave}
use Rattle.call_model.specs.Next.{IsTimely}
use Rattle.headline.proofs.Holding.{tick_leaves}
use Rattle.headline.proofs.laws.ticks_change_nothing.Goals as goal

pub returns : goal.returns
returns c = record { legal = tick_leaves IsTimely; own = tick_leaves IsTimelySave }
