use Rattle.std.proofs.Common.{◌+◌, List, take, sym, subst, refl}
use Rattle.std.proofs.lemmas.List.{take_all}
use Rattle.usage_ledger.specs.Tallies.{Tallied}
use Rattle.account_lock.specs.Failing.{FirstFailure}
use Rattle.account_lock.specs.Settlement.{RisesUnjoined, AllRise}
use Rattle.account_lock.proofs.FirstFailures.{element_more}
use Rattle.account_lock.proofs.settle.calls.order_differs.Goals as goal

pub loop-tally-preserved : goal.loop-tally-preserved
loop-tally-preserved g c =
    let tallies = c.args.tallies.now in
    let i = c.loop-tally.tally-index in
    subst (FirstFailure (AllRise (take (i + 1) tallies))) (sym c.lesser-least.ensures)
    (element_more RisesUnjoined (λ (x : Tallied). x) tallies i c.tally-item.result c.tally-item.result c.loop-tally.least c.fallen_in.result
    c.loop-tally-test.true c.tally-item.is refl c.loop-tally.invariant c.fallen_in.ensures)

pub returns : goal.returns
returns g c =
    subst (λ (ts : List Tallied). FirstFailure (AllRise ts) c.loop-tally.least)
    (take_all c.loop-tally.tally-index c.args.tallies.now c.loop-tally-test.false) c.loop-tally.invariant
