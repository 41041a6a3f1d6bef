use Rattle.std.proofs.Common.{◌≡◌, ℕ, ◌+◌, List, Some, take, sym, subst, refl}
use Rattle.std.proofs.lemmas.List.{take_all}
use Rattle.account_lock.specs.Failing.{FirstFailure}
use Rattle.account_lock.specs.Settlement.{Agree}
use Rattle.account_lock.proofs.FirstFailures.{element_more}
use Rattle.account_lock.proofs.settle.claims.wrong_pair.Goals as goal

pub loop-pair-preserved : goal.loop-pair-preserved
loop-pair-preserved g c =
    let wanted = g.C.Claim.wanted c.args.book.now.history in
    let pairs = c.args.pairs.now in
    let i = c.loop-pair.pair-index in
    let pair = c.pair-item.result in
    subst (FirstFailure (Agree wanted (take (i + 1) pairs))) (sym c.lesser-wrong.ensures)
    (element_more (λ (p : ℕ × g.row.C.Denot) t. p.0 ≡ t → wanted t ≡ Some p.1) (λ (p : ℕ × g.row.C.Denot). p) pairs i pair pair c.loop-pair.wrong c.unless_stands.result
    c.loop-pair-test.true c.pair-item.is refl c.loop-pair.invariant c.unless_stands.ensures)

pub returns : goal.returns
returns g c =
    subst (λ (ps : List (ℕ × g.row.C.Denot)). FirstFailure (Agree (g.C.Claim.wanted c.args.book.now.history) ps) c.loop-pair.wrong)
    (take_all c.loop-pair.pair-index c.args.pairs.now c.loop-pair-test.false) c.loop-pair.invariant
