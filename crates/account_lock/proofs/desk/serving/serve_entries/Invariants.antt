use Rattle.std.proofs.Common.{◌≡◌, ◌+◌, ◌≤◌, ◌++◌, true, drop, vec_len, vec_capacity, length}
use Rattle.usage_ledger.specs.Keeping.{Steps, Kept}
use Rattle.account_lock.specs.Bells.{are_rising, rings_of, bells_after, answers_of}
use Rattle.account_lock.proofs.desk.serving.serve_entries.Given as goal

abbrev pub invariant-loop-number : goal.invariant-loop-number
invariant-loop-number g l = record {
  rings : l.rings.items ++ rings_of (answers_of (drop l.number l.entries.0)) l.bells.items ≡ l.initial.rings.items ++ rings_of (answers_of (drop l.start l.entries.0)) l.initial.bells.items;
  bells : bells_after (answers_of (drop l.number l.entries.0)) l.bells.items ≡ bells_after (answers_of (drop l.start l.entries.0)) l.initial.bells.items;
  rising : are_rising l.bells.items ≡ true;
  room : vec_len l.rings + length (answers_of (drop l.number l.entries.0)) ≤ vec_capacity l.rings;
  kept : (k : Kept) → Steps g.K.Keep.notes l.tally.held.kept (answers_of (drop l.number l.entries.0)) k
      → Steps g.K.Keep.notes l.initial.tally.held.kept (answers_of (drop l.start l.entries.0)) k;
  same : l.tally.held ≡ record l.initial.tally.held { kept = l.tally.held.kept };
  calls : l.initial.tally.spare_calls ≤ l.tally.spare_calls;
  notes : length (answers_of (drop l.number l.entries.0)) ≤ l.tally.spare_notes;
}
