use Rattle.std.proofs.Common.{◌≡◌, ◌+◌, ◌≤◌, length, vec_len, vec_capacity}
use Rattle.connection_places.proofs.slots.Slots.into_tallies.Given as goal

-- none is lost, and there is room for the tallies of the places that are left
abbrev pub invariant-loop-slot : goal.invariant-loop-slot
invariant-loop-slot g l = record {
  all : vec_len l.tallies + vec_len l.slots ≡ length l.fn.self.places + 2;
  room : vec_len l.tallies + vec_len l.slots ≤ vec_capacity l.tallies;
}

abbrev pub decreases-loop-slot : goal.decreases-loop-slot
decreases-loop-slot g l = vec_len l.slots
