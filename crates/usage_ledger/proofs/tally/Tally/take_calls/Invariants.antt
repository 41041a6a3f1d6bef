use Rattle.std.proofs.Common.{◌≡◌, ◌+◌, ◌≤◌, drop, length}
use Rattle.usage_ledger.specs.Keeping.{Steps, Kept}
use Rattle.usage_ledger.proofs.tally.Tally.take_calls.Given as goal

-- The steps of the rest, after those so far, are the steps of all.
abbrev pub invariant-loop-pair : goal.invariant-loop-pair
invariant-loop-pair g l = record {
  kept : (new : Kept) → Steps g.K.Keep.makes l.self.held.kept (drop l.pair-index l.calls) new → Steps g.K.Keep.makes l.initial.self.held.kept l.calls new;
  same : l.self.held ≡ record l.initial.self.held { kept = l.self.held.kept };
  left : length l.calls ≤ l.self.spare_calls + l.pair-index;
}
