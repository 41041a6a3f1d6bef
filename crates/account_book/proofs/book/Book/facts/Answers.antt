use Rattle.std.proofs.Common.{◌≡◌, ◌≤◌, ℕ, true, refl, sym, arith}
use Rattle.std.proofs.lemmas.Bool.{le-leb}
use Rattle.arn_ids.specs.Faults.{is_between}
use Rattle.account_book.proofs.book.Book.facts.Goals as goal

lies_between : (low high n : ℕ) → low ≤ n → n ≤ high → is_between low high n ≡ true
lies_between low high n from upto = rw (le-leb low n from, le-leb n high upto) refl

pub returns-clause-booked : goal.returns-clause-booked
returns-clause-booked c = rw (sym c.self.view_is) (record {
  sound = c.facts.ensures.sound;
  in_range = c.self.invariant.in_range;
  salted = omega arith;
  within = lies_between _ _ _ c.self.invariant.room c.self.invariant.few;
})
