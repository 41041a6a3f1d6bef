use Rattle.account_book.proofs.WholeText.{replayed_on}
use Rattle.account_book.proofs.laws.goes_on.Goals as goal

pub returns : goal.returns
returns c = replayed_on
