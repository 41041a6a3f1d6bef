use Rattle.connection_places.specs.Places.{SomeBecome, closed}
use Rattle.connection_places.proofs.slots.Slots.reap.Given as goal

abbrev pub invariant-loop : goal.invariant-loop
invariant-loop g l = SomeBecome closed l.fn.self l.self
