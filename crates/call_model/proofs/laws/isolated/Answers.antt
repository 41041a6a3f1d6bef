use Rattle.call_model.proofs.OwnStands.{own_stand}
use Rattle.call_model.proofs.OwnTexts.{named_own}
use Rattle.call_model.proofs.laws.isolated.Goals as goal

pub returns : goal.returns
returns c = record { names = named_own; stands = own_stand }
