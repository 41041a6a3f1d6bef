use Rattle.std.proofs.Common.{◌≡◌, drop, map}
use Rattle.connection_places.specs.Places.{next_free, standing}
use Rattle.connection_places.proofs.Standings.{next_free_from}
use Rattle.connection_places.proofs.slots.next_free.Given as goal

-- the place found so far and those that are left give what all give
abbrev pub invariant-loop-at : goal.invariant-loop-at
invariant-loop-at g l = next_free (map standing l.slots) ≡ next_free_from l.first l.at (map standing (drop l.at l.slots))
