use Rattle.std.proofs.Common.{ℕ, ◌+◌, List, take, sym, subst}
use Rattle.std.proofs.lemmas.List.{take_all}
use Rattle.usage_ledger.specs.Tallies.{Tallied}
use Rattle.account_lock.specs.Failing.{FirstFailure}
use Rattle.account_lock.specs.Settlement.{Agree, AllAgree}
use Rattle.account_lock.proofs.FirstFailures.{element_more}
use Rattle.account_lock.proofs.settle.claims.wrong_claim.Goals as goal

pub loop-tally-preserved : goal.loop-tally-preserved
loop-tally-preserved g c =
    let wanted = g.C.Claim.wanted c.args.book.now.history in
    let tallies = c.args.tallies.now in
    let i = c.loop-tally.tally-index in
    subst (FirstFailure (AllAgree wanted g.C.Claim.part (take (i + 1) tallies))) (sym c.lesser-wrong.ensures)
    (element_more (λ (pairs : List (ℕ × g.row.C.Denot)) t. Agree wanted pairs t) (λ (x : Tallied). g.C.Claim.part x.held.kept) tallies i c.tally-item.result c.kept.result.now c.loop-tally.wrong c.wrong_pair.result
    c.loop-tally-test.true c.tally-item.is c.kept.ensures c.loop-tally.invariant c.wrong_pair.ensures)

pub returns : goal.returns
returns g c =
    subst (λ (ts : List Tallied). FirstFailure (AllAgree (g.C.Claim.wanted c.args.book.now.history) g.C.Claim.part ts) c.loop-tally.wrong)
    (take_all c.loop-tally.tally-index c.args.tallies.now c.loop-tally-test.false) c.loop-tally.invariant
