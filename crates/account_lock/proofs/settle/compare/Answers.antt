use Rattle.std.proofs.Common.{◌≡◌, ℕ, Bool, true, subst}
use Rattle.account_lock.specs.Failing.{FailsFirstAt}
use Rattle.account_lock.specs.Settlement.{HasReceipt, CallsAgree}
use Rattle.account_lock.proofs.settle.compare.Goals as goal

pub returns-in-Some-clause-some : goal.returns-in-Some-clause-some
returns-in-Some-clause-some g c = (c.requires.parts, c.in-Some.ensures)

pub returns-in-Some-receipt_missing-clause-some : goal.returns-in-Some-receipt_missing-clause-some
returns-in-Some-receipt_missing-clause-some g c =
    let h = c.args.book.now.history in
    let tallies = c.args.tallies.now in
    let found = subst (λ (all : Bool). (all ≡ true) × FailsFirstAt (HasReceipt h tallies) c.in-Some-receipt_missing.ticket) c.ALL.ensures c.in-Some-receipt_missing.ensures.some in
    (c.requires.parts, c.in_default.ensures, found.0, found.1)

pub returns-in-Some-call_differs-clause-some : goal.returns-in-Some-call_differs-clause-some
returns-in-Some-call_differs-clause-some g c =
    let h = c.args.book.now.history in
    let tallies = c.args.tallies.now in (
      c.requires.parts,
      c.in_default.ensures,
      subst (λ (all : Bool). all ≡ true → (k : ℕ) → HasReceipt h tallies k) c.ALL.ensures c.in_default-receipt_missing.ensures.none,
      subst (λ (all : Bool). FailsFirstAt (CallsAgree all h tallies) c.in-Some-call_differs.ticket) c.ALL-2.ensures c.in-Some-call_differs.ensures,
    )

pub returns-clause-none : goal.returns-clause-none
returns-clause-none g c =
    let h = c.args.book.now.history in
    let tallies = c.args.tallies.now in
    record {
      receipts = c.in_default.ensures;
      answered = subst (λ (all : Bool). all ≡ true → (k : ℕ) → HasReceipt h tallies k) c.ALL.ensures c.in_default-receipt_missing.ensures.none;
      calls = subst (λ (all : Bool). (k : ℕ) → CallsAgree all h tallies k) c.ALL-2.ensures c.in_default-call_differs.ensures;
    }
