use Rattle.std.proofs.Common.{◌≡◌, ◌+◌, ◌≤◌, drop, length}
use Rattle.usage_ledger.specs.Keeping.{Steps, Kept}
use Rattle.usage_ledger.proofs.tally.Tally.take_receipts.Given as goal

-- The steps of the rest, after those so far, are the steps of all.
abbrev pub invariant-loop-pair : goal.invariant-loop-pair
invariant-loop-pair g l = record {
  kept : (new : Kept) → Steps g.K.Keep.notes l.self.held.kept (drop l.pair-index l.receipts) new → Steps g.K.Keep.notes l.initial.self.held.kept l.receipts new;
  same : l.self.held ≡ record l.initial.self.held { kept = l.self.held.kept };
  calls : l.initial.self.spare_calls ≤ l.self.spare_calls;
  left : length l.receipts ≤ l.self.spare_notes + l.pair-index;
}
