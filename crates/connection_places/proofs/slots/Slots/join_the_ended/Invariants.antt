use Rattle.std.proofs.Common.{map}
use Rattle.connection_places.specs.Places.{EachEither, standing, unstaffed}
use Rattle.connection_places.proofs.slots.Slots.join_the_ended.Given as goal

abbrev pub invariant-loop-slot : goal.invariant-loop-slot
invariant-loop-slot g l = EachEither unstaffed (map standing l.initial.slot-items) (map standing l.slot-items)
