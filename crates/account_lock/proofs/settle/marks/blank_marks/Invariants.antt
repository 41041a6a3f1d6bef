use Rattle.std.proofs.Common.{◌≡◌, ℕ, vec_len, vec_capacity}
use Rattle.account_lock.specs.Marking.{marked}
use Rattle.account_lock.proofs.settle.marks.blank_marks.Given as goal

abbrev pub invariant-loop : goal.invariant-loop
invariant-loop l = record {
  len : vec_len l.marks ≡ l.counter;
  room : vec_capacity l.marks ≡ l.count;
  blank : (t : ℕ) → marked t l.marks.items ≡ 0;
}
