use Rattle.std.proofs.Common.{take}
use Rattle.account_lock.specs.Failing.{FirstFailure}
use Rattle.account_lock.specs.Settlement.{Agree}
use Rattle.account_lock.proofs.settle.claims.wrong_pair.Given as goal

abbrev pub invariant-loop-pair : goal.invariant-loop-pair
invariant-loop-pair g l = FirstFailure (Agree (g.C.Claim.wanted l.book.history) (take l.pair-index l.pairs)) l.wrong
