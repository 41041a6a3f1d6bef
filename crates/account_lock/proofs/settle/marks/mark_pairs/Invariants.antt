use Rattle.std.proofs.Common.{◌≡◌, ℕ, ◌+◌, ◌<◌, ◌≤◌, min, take, vec_len}
use Rattle.account_lock.specs.Failing.{FirstFailure}
use Rattle.account_lock.specs.Gathered.{occurrences}
use Rattle.account_lock.specs.Marking.{marked}
use Rattle.account_lock.proofs.settle.marks.mark_pairs.Given as goal

abbrev pub invariant-loop-pair : goal.invariant-loop-pair
invariant-loop-pair g l = record {
  len : vec_len l.marks ≡ vec_len l.initial.marks;
  marks : (t : ℕ) → t < vec_len l.initial.marks → marked t l.marks.items ≡ min 1 (marked t l.initial.marks.items + occurrences t (take l.pair-index l.pairs));
  twice : FirstFailure (λ t. t < vec_len l.initial.marks → marked t l.initial.marks.items + occurrences t (take l.pair-index l.pairs) ≤ 1) l.twice;
}
