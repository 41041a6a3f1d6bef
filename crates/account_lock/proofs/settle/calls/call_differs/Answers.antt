use Rattle.std.proofs.Common.{◌≡◌, ℕ, ◌<◌, ◌≤◌, true, List, Bool, length, sym, ◌∙◌, subst}
use Rattle.account_lock.specs.Failing.{FirstFailure, lesser}
use Rattle.account_lock.specs.Gathered.{calls_of}
use Rattle.account_lock.specs.Marking.{marked, HasMark}
use Rattle.account_lock.specs.Settlement.{head_at, CallsAgree}
use Rattle.account_lock.proofs.Agreeing.{calls_agree}
use Rattle.account_lock.proofs.settle.calls.call_differs.Goals as goal

pub returns : goal.returns
returns g c =
    let h = c.args.book.now.history in
    let tallies = c.args.tallies.now in
    let all = c.args.all in
    let found : c.lesser-3.result ≡ lesser (lesser c.wrong_claim-wrong.result c.mark_claims-twice.result) (lesser c.order_differs-fallen.result c.call_missing-missing.result) =
    c.lesser-3.ensures ∙ (λ i. lesser (c.lesser.ensures i) (c.lesser-2.ensures i)) in
    subst (FirstFailure (CallsAgree all h tallies)) (sym found)
    (calls_agree all h tallies (λ (t : ℕ). marked t c.mark_claims-twice.new.marks.items) c.wrong_claim-wrong.result c.mark_claims-twice.result c.order_differs-fallen.result c.call_missing-missing.result
    (λ t lt. c.mark_claims-twice.ensures.marks t (rw c.requires.len lt))
    c.wrong_claim-wrong.ensures
    (subst (λ (n : ℕ). FirstFailure (λ t. t < n → calls_of t tallies ≤ 1) c.mark_claims-twice.result) c.requires.len c.mark_claims-twice.ensures.twice)
    c.order_differs-fallen.ensures
    (subst (λ (ms : List Bool). FirstFailure (λ t. all ≡ true → HasMark (head_at h) (length h) ms t) c.call_missing-missing.result) c.deref.ensures.value c.call_missing-missing.ensures))
