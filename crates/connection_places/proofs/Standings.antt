-- What contracts see of places, where one of them changes, or is looked for.
use Rattle.std.proofs.Common.{◌≡◌, ◌<◌, ℕ, List, Option, Some, None, length, map, refl, sym, ap, subst, ◌∙◌, get_or, set}
use Rattle.std.proofs.Math.Seq.{map-set_same}
use Rattle.std.specs.List.{position, position_from}
use Rattle.std.proofs.lemmas.Iterator.Adapters.{position_from-zero}
use Rattle.std.proofs.lemmas.List.{map-set, get_or-map, length-map}
use Rattle.std.specs.Option.{option_or}
use Rattle.std.proofs.lemmas.List.Quantifiers.{position-Some}
use Rattle.connection_places.specs.Places.{Becomes, Places, Standing, added, is_free, is_free_with_thread, next_free, standing}
use Rattle.connection_places.specs.declared.slots.Slot.{Slot}

-- a place becomes what a change makes of it
changed : {Y V : Type 0} (change : Standing → Standing) (slots : List (Slot Y V)) (at : ℕ) (slot was : Slot Y V) (d : Standing)
    → at < length slots → standing slot ≡ change (standing (get_or slots at was))
    → map standing (set slots at slot) ≡ set (map standing slots) at (change (get_or (map standing slots) at d))
changed change slots at slot was d within is =
    map-set standing slots at slot
    ∙ ap (set (map standing slots) at) (is ∙ ap change (sym (get_or-map standing slots at was d within)))

-- and so does what is seen of all
pub becomes : {Y V : Type 0} (change : Standing → Standing) (most : ℕ) (slots : List (Slot Y V)) (at : ℕ) (slot was : Slot Y V) (before : Places)
    → at < length slots → standing slot ≡ change (standing was) → was ≡ get_or slots at was
    → record { most = most; places = map standing slots } ≡ before
    → Becomes change at before (record { most = most; places = map standing (set slots at slot) })
becomes change most slots at slot was before within is value seen d =
    ap (λ ps. record { most = most; places = ps }) (changed change slots at slot was d within (is ∙ ap (λ s. change (standing s)) value))
    ∙ ap (λ (p : Places). record { most = p.most; places = set p.places at (change (get_or p.places at d)) }) seen

-- the place that is taken next, if these are left, of which the first one has number n, and `first` is the first free
-- one before them; none of those is free and has a thread
abbrev pub next_free_from : Option ℕ → ℕ → List Standing → Option ℕ
next_free_from first n places =
    option_or (position_from is_free_with_thread n places) (option_or first (position_from is_free n places))

-- at first all are left
pub from_zero : (places : List Standing) → next_free places ≡ next_free_from None 0 places
from_zero places =
    ap (λ found. option_or found (position is_free places)) (position_from-zero is_free_with_thread places)
    ∙ ap (option_or (position_from is_free_with_thread 0 places)) (position_from-zero is_free places)

-- the place that is taken next is one of them
below : (places : List Standing) (at : ℕ) → next_free places ≡ Some at → at < length places
below places at is = go (position is_free_with_thread places) refl is
  where
    go : (found : Option ℕ) → position is_free_with_thread places ≡ found → option_or found (position is_free places) ≡ Some at → at < length places
    go (Some n) first is = (position-Some is_free_with_thread places at added (first ∙ is)).0
    go None none is = (position-Some is_free places at added is).0

pub below_seen : {Y V : Type 0} (slots : List (Slot Y V)) (at : ℕ) → next_free (map standing slots) ≡ Some at → at < length slots
below_seen slots at found = subst (λ n. at < n) (length-map slots standing) (below (map standing slots) at found)

-- a place that is seen as it was
pub same : {Y V : Type 0} (most : ℕ) (slots : List (Slot Y V)) (at : ℕ) (slot was : Slot Y V) (before : Places)
    → standing slot ≡ standing was → was ≡ get_or slots at was
    → record { most = most; places = map standing slots } ≡ before
    → record { most = most; places = map standing (set slots at slot) } ≡ before
same most slots at slot was before is value seen =
    ap (λ ps. record { most = most; places = ps }) (map-set_same standing slots at slot was (is ∙ ap standing value)) ∙ seen
