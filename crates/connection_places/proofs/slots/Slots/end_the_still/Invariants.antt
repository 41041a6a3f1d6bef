use Rattle.std.proofs.Common.{◌≡◌, map}
use Rattle.connection_places.specs.Places.{standing}
use Rattle.connection_places.proofs.slots.Slots.end_the_still.Given as goal

abbrev pub invariant-loop-slot : goal.invariant-loop-slot
invariant-loop-slot g l = map standing l.slot-items ≡ map standing l.initial.slot-items
