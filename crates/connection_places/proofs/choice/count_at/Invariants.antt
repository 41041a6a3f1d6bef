use Rattle.std.proofs.Common.{◌≡◌, ◌≤◌, take}
use Rattle.connection_places.specs.Choices as choice
use Rattle.connection_places.proofs.choice.count_at.Given as goal

abbrev pub invariant-loop-slot : goal.invariant-loop-slot
invariant-loop-slot g l = record {
  exact : l.count ≡ choice.count_at l.environment (take l.slot-index l.slots);
  bound : l.count ≤ l.slot-index;
}
