use Rattle.account_book.proofs.Reaching.{reached_first, reached_next, reached_legal}
use Rattle.account_book.proofs.laws.reached.Goals as goal

pub returns-clause-first : goal.returns-clause-first
returns-clause-first c = reached_first

pub returns-clause-next : goal.returns-clause-next
returns-clause-next c = reached_next

pub returns-clause-legal : goal.returns-clause-legal
returns-clause-legal c = reached_legal
