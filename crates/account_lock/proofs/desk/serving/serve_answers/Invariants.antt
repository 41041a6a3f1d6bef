use Rattle.std.proofs.Common.{◌≡◌, ◌+◌, ◌≤◌, ◌++◌, true, drop, vec_len, vec_capacity, length}
use Rattle.usage_ledger.specs.Keeping.{Steps, Kept}
use Rattle.account_lock.specs.Bells.{are_rising, rings_of, bells_after}
use Rattle.account_lock.proofs.desk.serving.serve_answers.Given as goal

abbrev pub invariant-loop-pair : goal.invariant-loop-pair
invariant-loop-pair g l = record {
  rings : l.rings.items ++ rings_of (drop l.pair-index l.answers) l.bells.items ≡ l.initial.rings.items ++ rings_of l.answers l.initial.bells.items;
  bells : bells_after (drop l.pair-index l.answers) l.bells.items ≡ bells_after l.answers l.initial.bells.items;
  rising : are_rising l.bells.items ≡ true;
  room : vec_len l.rings ≤ vec_len l.initial.rings + l.pair-index;
  capacity : vec_capacity l.rings ≡ vec_capacity l.initial.rings;
  kept : (k : Kept) → Steps g.K.Keep.notes l.tally.held.kept (drop l.pair-index l.answers) k → Steps g.K.Keep.notes l.initial.tally.held.kept l.answers k;
  same : l.tally.held ≡ record l.initial.tally.held { kept = l.tally.held.kept };
  calls : l.initial.tally.spare_calls ≤ l.tally.spare_calls;
  notes : length l.answers ≤ l.tally.spare_notes + l.pair-index;
  left : l.initial.tally.spare_notes ≤ l.tally.spare_notes + l.pair-index;
}
