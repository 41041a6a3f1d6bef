use Rattle.account_book.proofs.RepliesStay.{calls_stay, replies_stay}
use Rattle.account_book.proofs.laws.replies_stay.Goals as goal

pub returns-clause-calls : goal.returns-clause-calls
returns-clause-calls c = calls_stay

pub returns-clause-replies : goal.returns-clause-replies
returns-clause-replies c = replies_stay
