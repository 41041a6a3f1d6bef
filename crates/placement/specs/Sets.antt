-- The sets of free environments, and how they correspond to the environments. No public clause cites this module.
use Rattle.std.specs.Prelude.{◌≡◌, ℕ, ◌-◌, ◌/◌, ◌%◌, ◌<◌, ◌≤◌, Bool, true, false, ◌==◌, cond, List, length}
use Rattle.std.specs.Prelude.{get_or, slice_index}
use Rattle.std.specs.Int.{bit_at}
use Rattle.arn_ids.specs.Limits.{most_environments}
use Rattle.placement.specs.declared.class.Class.{Class}
use Rattle.placement.specs.declared.class.Class.TheVariants.{Idle, StartingFree, ClosingFree, Taken}
use Rattle.placement.specs.declared.env_set.EnvSet.{EnvSet}
use Rattle.placement.specs.declared.free.Free.{Free}
use Rattle.placement.specs.declared.places.Place.{Place}
use Rattle.placement.specs.Class.{is_class}
use Rattle.placement.specs.Places.{no_place}

-- A bit as a number.
abbrev pub digit : Bool → ℕ
digit true = 1
digit false = 0

-- Whether a set has the environment at an index, which is one less than its number.
abbrev pub has_at : EnvSet → ℕ → Bool
has_at set i = bit_at (slice_index set.words (i / 64)) (i % 64) == 1

-- Environment `e` is the lowest-numbered one in a set.
pub record IsLowest (set : EnvSet) (e : ℕ) : Type 0 where
  pub from_one : 1 ≤ e
  pub within : e ≤ most_environments
  pub is_in : has_at set (e - 1) ≡ true
  pub below : (i : ℕ) → i < e - 1 → has_at set i ≡ false

-- Each of the three sets has 4 words, that is, a bit for each of 256 environments.
pub record IsWhole (free : Free) : Type 0 where
  pub idle : length free.idle.words ≡ 4
  pub starting : length free.starting.words ≡ 4
  pub closing : length free.closing.words ≡ 4

-- The environment at an index is in the set of this class, and in no other.
pub record HasClass (free : Free) (i : ℕ) (class : Class) : Type 0 where
  pub idle : has_at free.idle i ≡ is_class Idle class
  pub starting : has_at free.starting i ≡ is_class StartingFree class
  pub closing : has_at free.closing i ≡ is_class ClosingFree class

-- The environment at an index is in the same sets as before.
pub record SameAt (old new : Free) (i : ℕ) : Type 0 where
  pub idle : has_at new.idle i ≡ has_at old.idle i
  pub starting : has_at new.starting i ≡ has_at old.starting i
  pub closing : has_at new.closing i ≡ has_at old.closing i

-- The class of an environment in the sets of function `f`: its own if it belongs to that function, and `Taken`
-- otherwise.
abbrev pub class_for : ℕ → Place → Class
class_for f place = cond (place.function == f) place.class Taken

-- The sets of a function contain its environments, by their classes.
pub record Marks (free : Free) (f : ℕ) (places : List Place) : Type 0 where
  pub whole : IsWhole free
  pub marked : (i : ℕ) → i < most_environments → HasClass free i (class_for f (get_or places i no_place))

-- The sets of all functions, by their numbers, correspond to the environments. No function has number 0.
pub record Follows (sets : List Free) (places : List Place) : Type 0 where
  pub fits : length places ≤ most_environments
  pub known : (i : ℕ) → i < length places → (get_or places i no_place).function < length sets
  pub marks : (f : ℕ) (d : Free) → f < length sets → Marks (get_or sets f d) f places
