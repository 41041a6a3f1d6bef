use Rattle.std.proofs.Common.{◌≡◌, ℕ, ◌<◌, ◌≤◌, min, take, vec_len}
use Rattle.account_lock.specs.Failing.{FirstFailure}
use Rattle.account_lock.specs.Gathered.{occurrences_in}
use Rattle.account_lock.specs.Marking.{marked}
use Rattle.account_lock.proofs.settle.claims.mark_claims.Given as goal

abbrev pub invariant-loop-tally : goal.invariant-loop-tally
invariant-loop-tally g l = record {
  len : vec_len l.marks ≡ vec_len l.initial.marks;
  marks : (t : ℕ) → t < vec_len l.initial.marks → marked t l.marks.items ≡ min 1 (occurrences_in g.C.Claim.part t (take l.tally-index l.tallies));
  twice : FirstFailure (λ t. t < vec_len l.initial.marks → occurrences_in g.C.Claim.part t (take l.tally-index l.tallies) ≤ 1) l.twice;
}
