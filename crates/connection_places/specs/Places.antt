-- The places of a host's connections, each with a tally.
use Rattle.std.specs.Prelude.{◌≡◌, ◌⊎◌, ◌&&◌, ℕ, Bool, true, false, not, is_some, List, [], ◌∷◌, Option, position}
use Rattle.std.specs.Prelude.{slice_index_or, slice_set}
use Rattle.std.specs.Option.{option_or}
use Rattle.connection_places.specs.declared.slots.Slot.{Slot}

-- A place: whether it was given to a connection, whether it has one that has begun, and whether it has a thread.
pub record Standing : Type 0 where
  pub is_taken : Bool
  pub is_open : Bool
  pub is_staffed : Bool

-- The greatest number of places that there may be, and those that were made.
pub record Places : Type 0 where
  pub most : ℕ
  pub places : List Standing

-- What contracts see of a place.
abbrev pub standing : {Y V : Type 0} → Slot Y V → Standing
standing slot = record {
  is_taken = slot.is_taken;
  is_open = is_some slot.running;
  is_staffed = is_some slot.worker;
}

-- The place may be given to a connection.
abbrev pub is_free : Standing → Bool
is_free place = not place.is_taken && not place.is_open

-- It may be given to a connection, and has a thread.
abbrev pub is_free_with_thread : Standing → Bool
is_free_with_thread place = is_free place && place.is_staffed

-- It has neither a connection nor a thread.
abbrev pub is_vacant : Standing → Bool
is_vacant place = not place.is_open && not place.is_staffed

-- The place that is taken next: the first free one with a thread, otherwise the first free one.
abbrev pub next_free : List Standing → Option ℕ
next_free places = option_or (position is_free_with_thread places) (position is_free places)

-- A new place, which is taken.
abbrev pub added : Standing
added = record { is_taken = true; is_open = false; is_staffed = false }

-- It was given to a connection.
abbrev pub taken : Standing → Standing
taken place = record place { is_taken = true }

-- It was given back.
abbrev pub given_back : Standing → Standing
given_back place = record place { is_taken = false }

-- Its connection has begun.
abbrev pub filled : Standing → Standing
filled place = record place { is_open = true }

-- Its connection, if it has one, has ended.
abbrev pub closed : Standing → Standing
closed place = record place { is_taken = place.is_taken && not place.is_open; is_open = false }

-- It has a thread.
abbrev pub staffed : Standing → Standing
staffed place = record place { is_staffed = true }

-- It has no thread.
abbrev pub unstaffed : Standing → Standing
unstaffed place = record place { is_staffed = false }

-- One place, if there is one of this number, has become what `change` makes of it, and all others are as before.
abbrev pub Becomes : (Standing → Standing) → ℕ → Places → Places → Type 0
Becomes change at before after =
    (d : Standing) → after ≡ record before { places = slice_set before.places at (change (slice_index_or before.places at d)) }

-- A place is as before, or as `change` makes it.
abbrev pub Either : (Standing → Standing) → Standing → Standing → Type 0
Either change before after = (after ≡ before) ⊎ (after ≡ change before)

-- Each place is as before, or as `change` makes it.
abbrev pub EachEither : (Standing → Standing) → List Standing → List Standing → Type 0
EachEither change [] [] = Unit {0}
EachEither change [] (after ∷ others) = ⊥
EachEither change (before ∷ rest) [] = ⊥
EachEither change (before ∷ rest) (after ∷ others) = Either change before after × EachEither change rest others

-- Of all places that there are, each is as before, or as `change` makes it.
abbrev pub SomeBecome : (Standing → Standing) → Places → Places → Type 0
SomeBecome change before after = (after.most ≡ before.most) × EachEither change before.places after.places
