use Rattle.account_book.proofs.Isolating.{same_reply}
use Rattle.call_model.proofs.OwnLegal.{own_legal}
use Rattle.headline.proofs.laws.isolated.Goals as goal

pub returns : goal.returns
returns c = record { legal = own_legal; replies = same_reply }
