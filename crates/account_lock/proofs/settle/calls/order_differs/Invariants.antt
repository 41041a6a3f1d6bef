use Rattle.std.proofs.Common.{take}
use Rattle.account_lock.specs.Failing.{FirstFailure}
use Rattle.account_lock.specs.Settlement.{AllRise}
use Rattle.account_lock.proofs.settle.calls.order_differs.Given as goal

abbrev pub invariant-loop-tally : goal.invariant-loop-tally
invariant-loop-tally g l = FirstFailure (AllRise (take l.tally-index l.tallies)) l.least
