use Rattle.account_book.proofs.Taken.{all_there, in_order, kept}
use Rattle.account_book.proofs.laws.requests.Goals as goal

pub returns-clause-calls : goal.returns-clause-calls
returns-clause-calls c = all_there

pub returns-clause-rising : goal.returns-clause-rising
returns-clause-rising c = in_order

pub returns-clause-replies : goal.returns-clause-replies
returns-clause-replies c = kept
