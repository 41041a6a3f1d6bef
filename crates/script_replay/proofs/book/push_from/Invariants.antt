use Rattle.std.proofs.Common.{◌≡◌, ◌≤◌, ◌-◌, ◌++◌, length, reverse, drop}
use Rattle.account_book.specs.Run.{lines_from}
use Rattle.script_replay.proofs.book.push_from.Given as goal

abbrev pub invariant-loop-number : goal.invariant-loop-number
invariant-loop-number l = record {
  within : l.number ≤ length l.past.entries.now.0;
  written : l.out.items ++ lines_from l.past.salt (reverse l.past.entries.now.0) l.number (drop l.number l.past.entries.now.0) ≡ l.fn.out.items ++ lines_from l.past.salt (reverse l.past.entries.now.0) l.from (drop l.from l.past.entries.now.0);
}

abbrev pub decreases-loop-number : goal.decreases-loop-number
decreases-loop-number l = length l.past.entries.now.0 - l.number
