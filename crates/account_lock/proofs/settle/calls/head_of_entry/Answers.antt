use Rattle.std.proofs.Common.{sym, ◌∙◌}
use Rattle.account_lock.proofs.Agreeing.{head_there, head_past}
use Rattle.account_lock.proofs.settle.calls.head_of_entry.Goals as goal

pub returns-in-Some : goal.returns-in-Some
returns-in-Some c = c.made.ensures ∙ head_there c.args.book.now.history c.args.ticket c.in-Some.entry.now (sym c.in-Some.ensures)

pub returns-in-None : goal.returns-in-None
returns-in-None c = head_past c.args.book.now.history c.args.ticket (sym c.in-None.ensures)
