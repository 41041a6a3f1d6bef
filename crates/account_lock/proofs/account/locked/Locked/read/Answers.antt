use Rattle.std.proofs.Common.{sym, ◌∙◌}
use Rattle.account_lock.specs.Shown.{book_of}
use Rattle.account_lock.proofs.Written.{sees}
use Rattle.account_lock.proofs.account.locked.Locked.read.Goals as goal

pub returns : goal.returns
returns g c = record {
  seen =
      sees c.self.invariant.0 c.self.invariant.3 c.facts.ensures.reached c.self.invariant.2 c.show.ensures.all
      c.show.ensures.longer;
  book =
      c.book.ensures
      ∙ (λ i. book_of (c.self.invariant.0 i) (c.self.invariant.1 i) (c.self.invariant.3 i)
      ((c.self.invariant.2 ∙ sym c.show.ensures.all) i));
}
