-- A history that tokens share. All lists have the newest entry first.
use Rattle.std.specs.Prelude.{◌≡◌, ◌⊎◌, ℕ, true, false, List, [], ◌++◌}
use mathlib.Core.Option.{some}
use lib.ListN.{get_elem?}
use Rattle.atomic_table.specs.Seated.{TableId}
use Rattle.atomic_table.specs.Table.{Me}
use Rattle.shared_history.specs.declared.view.View.{View}

-- The name of no spine.
abbrev pub no_spine : TableId
no_spine = record { words = 0; slots = 0; views_name = 0; atom = 0; block = 0; offset = 0; slot_names = [] }

module _ {A : Type 0} where
  -- The first list is a beginning of the second, which may have newer entries.
  abbrev pub Extends : List A → List A → Type 0
  Extends beginning history = (newer : List A) × (history ≡ newer ++ beginning)

  -- What the pen knows: the whole history.
  abbrev pub pen_view : List A → View A
  pen_view all = record { keeps = true; all = all; seen = [] }

  -- What a token knows: the beginning of the history that it has seen.
  abbrev pub token_view : List A → View A
  token_view seen = record { keeps = false; all = []; seen = seen }

  -- What the pen knows (`v`) once it has learned what another token (`w`) has seen.
  abbrev pub heard : View A → View A → View A
  heard v w = record { keeps = v.keeps; all = v.all; seen = w.seen }

  -- What a token knows once it has learned what another token (`w`) has seen: that, and what it has seen itself (in
  -- `v`).
  abbrev pub told : View A → View A → View A
  told v w = record { keeps = false; all = w.seen; seen = v.seen }

  -- The rule for the token with a number: if it is the pen, its number is `place` and it knows the whole history; in
  -- any case, what it knows and what it has seen are beginnings of the history.
  pub record Fits (place : ℕ) (history : List A) (number : ℕ) (v : View A) : Type 0 where
    pub knows : v.keeps ≡ true → (number ≡ place) × (v.all ≡ history)
    pub begins : Extends v.all history
    pub saw : Extends v.seen history

  -- The rule of all tokens: there is one history, at most one token is the pen, and each has seen a beginning of the
  -- history.
  abbrev pub Shared : List (View A) → Type 0
  Shared views = (place : ℕ) × (history : List A)
      × ((number : ℕ) (v : View A) → get_elem? views number ≡ some v → Fits place history number v)

  -- The pen has extended the history to this one.
  abbrev pub Wrote : List A → Me (Unit {0}) (View A) → Me (Unit {0}) (View A) → Type 0
  Wrote history before after = after ≡ (pen_view history, before.1)

  -- The pen found that what it learned of another token is a beginning of the history.
  abbrev pub Compared : Me (Unit {0}) (View A) → Me (Unit {0}) (View A) → Type 0
  Compared before after = (after ≡ (pen_view before.0.all, before.1)) × Extends before.0.seen before.0.all

  -- A token found that of what it has seen and what it learned, one is a beginning of the other.
  abbrev pub Agreed : Me (Unit {0}) (View A) → Me (Unit {0}) (View A) → Type 0
  Agreed before after = (after ≡ (token_view before.0.seen, before.1))
      × (Extends before.0.seen before.0.all ⊎ Extends before.0.all before.0.seen)
