use Rattle.std.proofs.Common.{sym}
use Rattle.account_book.proofs.Expiring.{due_within}
use Rattle.account_book.proofs.journal.Journal.expire_first.Goals as goal

pub enter-requires-clause-known : goal.enter-requires-clause-known
enter-requires-clause-known c = due_within c.args.self.now.config c.args.self.now.history c.args.moment c.in-Some.env (sym c.in-Some.ensures)
