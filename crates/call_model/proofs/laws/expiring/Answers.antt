use Rattle.call_model.proofs.DueList.{listed_once, listed_in_order}
use Rattle.call_model.proofs.NextLegal.{none_due_after}
use Rattle.call_model.proofs.laws.expiring.Goals as goal

pub returns : goal.returns
returns c = record { listed = listed_once; ordered = listed_in_order; done = none_due_after }
