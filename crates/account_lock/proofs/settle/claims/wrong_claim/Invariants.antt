use Rattle.std.proofs.Common.{take}
use Rattle.account_lock.specs.Failing.{FirstFailure}
use Rattle.account_lock.specs.Settlement.{AllAgree}
use Rattle.account_lock.proofs.settle.claims.wrong_claim.Given as goal

abbrev pub invariant-loop-tally : goal.invariant-loop-tally
invariant-loop-tally g l =
    FirstFailure (AllAgree (g.C.Claim.wanted l.book.history) g.C.Claim.part (take l.tally-index l.tallies)) l.wrong
