use Rattle.std.proofs.Common.{◌+◌, take, sym, subst}
use Rattle.account_lock.specs.Failing.{FirstFailure}
use Rattle.account_lock.specs.Settlement.{Rises}
use Rattle.account_lock.proofs.Rising.{rising_more, highest_more}
use Rattle.account_lock.proofs.settle.calls.fallen.Goals as goal

pub loop-call-preserved : goal.loop-call-preserved
loop-call-preserved c =
    let calls = c.args.calls.now in
    let i = c.loop-call.call-index in
    let inv = c.loop-call.invariant in
    record {
      found = subst (FirstFailure (Rises (take (i + 1) calls))) (sym c.lesser-least.ensures)
          (rising_more calls i _ c.loop-call.highest c.loop-call.least c.falls.result c.loop-call-test.true inv.top inv.found c.falls.ensures);
      top = highest_more calls i _ c.loop-call.highest c.max-highest.result c.loop-call-test.true inv.top c.max-highest.ensures;
    }
