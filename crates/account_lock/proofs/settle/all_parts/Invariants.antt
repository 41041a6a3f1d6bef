use Rattle.std.proofs.Common.{◌≡◌, ◌-◌, ◌^◌, min, take}
use Rattle.account_lock.specs.Gathered.{parts_in}
use Rattle.account_lock.proofs.settle.all_parts.Given as goal

abbrev pub invariant-loop-tally : goal.invariant-loop-tally
invariant-loop-tally g l = l.sum ≡ min (2 ^ 64 - 1) (parts_in (take l.tally-index l.tallies))
