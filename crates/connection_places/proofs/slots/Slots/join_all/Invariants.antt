use Rattle.std.proofs.Common.{map}
use Rattle.connection_places.specs.Places.{standing, unstaffed}
use Rattle.connection_places.proofs.Changes.{Upto}
use Rattle.connection_places.proofs.slots.Slots.join_all.Given as goal

abbrev pub invariant-loop-slot : goal.invariant-loop-slot
invariant-loop-slot g l = Upto unstaffed l.slot-index (map standing l.initial.slot-items) (map standing l.slot-items)
