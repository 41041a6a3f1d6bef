use Rattle.std.proofs.Common.{◌≡◌, take}
use Rattle.account_lock.specs.Failing.{FirstFailure}
use Rattle.account_lock.specs.Settlement.{Rises}
use Rattle.account_lock.proofs.Rising.{highest}
use Rattle.account_lock.proofs.settle.calls.fallen.Given as goal

abbrev pub invariant-loop-call : goal.invariant-loop-call
invariant-loop-call l = record {
  found : FirstFailure (Rises (take l.call-index l.calls)) l.least;
  top : l.highest ≡ highest (take l.call-index l.calls);
}
