use Rattle.std.proofs.Common.{ℕ, List, Bool, length, subst}
use Rattle.call_model.specs.History.{answer_of}
use Rattle.account_lock.specs.Failing.{FirstFailure}
use Rattle.account_lock.specs.Marking.{marked, HasMark}
use Rattle.account_lock.proofs.Agreeing.{has_receipt}
use Rattle.account_lock.proofs.settle.receipts.first_missing.Goals as goal

pub returns : goal.returns
returns g c =
    let h = c.args.book.now.history in
    has_receipt c.args.book.now.config h c.args.tallies.now (λ (t : ℕ). marked t c.mark_claims.new.marks.items) c.unmarked.result c.facts.ensures.legal
    (λ t lt. c.mark_claims.ensures.marks t (rw c.requires.len lt))
    (subst (λ (ms : List Bool). FirstFailure (HasMark (answer_of h) (length h) ms) c.unmarked.result) c.deref.ensures.value c.unmarked.ensures)
