use Rattle.std.proofs.Common.{◌≡◌}
use Rattle.std.specs.Prelude.{IfOk}
use Rattle.account_book.specs.HistoryText.{opening_text}
use Rattle.account_lock.proofs.account.locked.Locked.opening.Goals as goal

pub returns : goal.returns
returns g c =
    coe 0 1 (i. IfOk c.opening.result (λ text.
    text.items ≡ opening_text (c.self.invariant.0 i) (c.self.invariant.1 i) (c.self.invariant.3 i))) (rw (← c.book.ensures) c.opening.ensures)
