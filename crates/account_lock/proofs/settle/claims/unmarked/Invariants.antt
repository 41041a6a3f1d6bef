use Rattle.std.proofs.Common.{◌≡◌, ℕ, ◌<◌, ◌≤◌, true}
use Rattle.std.specs.Prelude.{is_some}
use Rattle.account_lock.specs.Marking.{marked}
use Rattle.account_lock.proofs.settle.claims.unmarked.Given as goal

abbrev pub invariant-loop-ticket : goal.invariant-loop-ticket
invariant-loop-ticket g l =
    (t : ℕ) → t < l.ticket → is_some (g.C.Claim.wanted l.book.history t) ≡ true → 1 ≤ marked t l.marks
