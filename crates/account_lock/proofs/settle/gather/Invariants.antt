use Rattle.std.proofs.Common.{◌≡◌, ◌+◌, vec_len}
use Rattle.usage_ledger.specs.Counts.{plus}
use Rattle.account_lock.specs.Gathered.{parts_in, counts_in}
use Rattle.account_lock.proofs.settle.gather.Given as goal

abbrev pub invariant-loop-tally : goal.invariant-loop-tally
invariant-loop-tally g l = record {
  parts : l.all.held.parts + parts_in l.tallies.items ≡ parts_in l.fn.tallies.items;
  counts : plus l.all.held.counts (counts_in l.tallies.items) ≡ counts_in l.fn.tallies.items;
}

abbrev pub decreases-loop-tally : goal.decreases-loop-tally
decreases-loop-tally g l = vec_len l.tallies
