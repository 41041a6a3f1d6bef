-- The sets follow the environments where one of them is added or noted.
use Rattle.std.proofs.Common.{◌≡◌, ◌≢◌, ℕ, zero, suc, ◌+◌, ◌<◌, ◌≤◌, List, [], ◌∷◌, ◌++◌, length, get_or, set, refl}
use Rattle.std.proofs.Common.{sym, ap, ◌∙◌, inl, inr, arith, length-set, length-append, get_or-set_same}
use Rattle.std.proofs.Common.{get_or-set_other, subst}
use Rattle.std.proofs.lemmas.Bool.{cases_eq, cases_lt, ne_eqb, eq-eqb}
use Rattle.std.proofs.lemmas.List.{get_or_past, get_or_push, get_or_default}
use Rattle.arn_ids.specs.declared.config.Config.{Config}
use Rattle.arn_ids.specs.Environments.{owners, function_of}
use Rattle.arn_ids.proofs.Bounds.{owner_is_function}
use Rattle.placement.specs.declared.class.Class.{Class}
use Rattle.placement.specs.declared.class.Class.TheVariants.{Taken}
use Rattle.placement.specs.declared.free.Free.{Free}
use Rattle.placement.specs.declared.places.Place.{Place}
use Rattle.placement.specs.Places.{no_place}
use Rattle.placement.specs.Sets.{IsWhole, HasClass, SameAt, class_for, Marks, Follows}
use Rattle.placement.proofs.First.{class_of_none, marks_at}

-- another function's environment is in none of the sets
class_of_other : (f : ℕ) (place : Place) → f ≢ place.function → class_for f place ≡ Taken
class_of_other f place other = rw (ne_eqb place.function f (λ same. other (sym same))) refl

class_of_own : (place : Place) → class_for place.function place ≡ place.class
class_of_own place = rw (eq-eqb place.function place.function refl) refl

-- an environment that stays in its sets
stays : (old new : Free) (i : ℕ) (class : Class) → SameAt old new i → HasClass old i class → HasClass new i class
stays old new i class same has = record { idle = same.idle ∙ has.idle; starting = same.starting ∙ has.starting; closing = same.closing ∙ has.closing }

-- The environment at an index has another place, and its function's sets note the class.
record Notes (sets : List Free) (places after : List Place) (k : ℕ) (place : Place) (old free : Free) : Type 0 where
  fits : length after ≤ 256
  function : place.function < length sets
  here : get_or after k no_place ≡ place
  others : (i : ℕ) → i ≢ k → get_or after i no_place ≡ get_or places i no_place
  before : (f : ℕ) → f ≢ place.function → class_for f (get_or places k no_place) ≡ Taken
  was : old ≡ get_or sets place.function old
  whole : IsWhole free
  noted : HasClass free k place.class
  same : (i : ℕ) → i < 256 → i ≢ k → SameAt old free i

module _ (sets : List Free) (places after : List Place) (k : ℕ) (place : Place) (old free : Free) (notes : Notes sets places after k place old free) (follows : Follows sets places) where
  marks_own : Marks free place.function after
  marks_own =
      let was : Marks old place.function places = marks_at sets places place.function old follows notes.function notes.was in
      record {
        whole = notes.whole;
        marked = λ i within.
            elim (cases_eq i k) [
              | inl same ↦ rw (same, notes.here, class_of_own place) notes.noted
              | inr other ↦ rw (notes.others i other) (stays old free i (class_for place.function (get_or places i no_place)) (notes.same i within other) (was.marked i within))
            ];
      }

  marks_other : (f : ℕ) (kept : Free) → f ≢ place.function → Marks kept f places → Marks kept f after
  marks_other f kept other was = record {
    whole = was.whole;
    marked = λ i within.
        elim (cases_eq i k) [
          | inl same ↦
              let taken : HasClass kept i Taken = subst (λ (class : Class). HasClass kept i class) (ap (λ (n : ℕ). class_for f (get_or places n no_place)) same ∙ notes.before f other) (was.marked i within) in
              rw (same, notes.here, class_of_other f place other) (rw same at taken)
          | inr apart ↦ rw (notes.others i apart) (was.marked i within)
        ];
  }

  function_in : (i : ℕ) → (get_or places i no_place).function < length sets
  function_in i =
      elim (cases_lt i (length places)) [
        | inl there ↦ follows.known i there
        | inr beyond ↦ let some = notes.function in rw (get_or_past places i no_place beyond) (omega (arith, some))
      ]

  known_after : (i : ℕ) → (get_or after i no_place).function < length sets
  known_after i =
      elim (cases_eq i k) [
        | inl same ↦ rw (same, notes.here) notes.function
        | inr other ↦ rw (notes.others i other) (function_in i)
      ]

  notes_follow : Follows (set sets place.function free) after
  notes_follow = record {
    fits = notes.fits;
    known = λ i there. rw (length-set sets place.function free) (known_after i);
    marks = λ f d there.
        elim (cases_eq f place.function) [
          | inl own ↦ rw (own, get_or-set_same sets place.function free d notes.function) marks_own
          | inr other ↦
              rw (get_or-set_other sets place.function f free d other)
              (marks_other f (get_or sets f d) other (follows.marks f d (rw (length-set sets place.function free) at there)))
        ];
  }

-- an environment's class was noted, in place of the one before
pub note_follows : (sets : List Free) (places : List Place) (k : ℕ) (found : Place) (class : Class) (old free : Free) → Follows sets places → k < length places
    → found ≡ get_or places k found → old ≡ get_or sets found.function old → IsWhole free → HasClass free k class
    → ((i : ℕ) → i < 256 → i ≢ k → SameAt old free i)
    → Follows (set sets found.function free) (set places k (record { function = found.function; class = class }))
note_follows sets places k found class old free follows there is was whole noted same =
    notes_follow sets places (set places k place) k place old free
    (record {
      fits = rw (length-set places k place) follows.fits;
      function = rw here_before at (follows.known k there);
      here = get_or-set_same places k place no_place there;
      others = λ i other. get_or-set_other places k i place no_place other;
      before = λ f other. ap (class_for f) here_before ∙ class_of_other f found other;
      was = was;
      whole = whole;
      noted = noted;
      same = same;
    })
    follows
  where
    place : Place
    place = record { function = found.function; class = class }

    here_before : get_or places k no_place ≡ found
    here_before = get_or_default places k no_place found there ∙ sym is

-- an environment more
push_other : (places : List Place) (place d : Place) (i : ℕ) → i ≢ length places → get_or (places ++ place ∷ []) i d ≡ get_or places i d
push_other [] place d zero other = absurd (other refl)
push_other [] place d (suc i) other = refl
push_other (p ∷ ps) place d zero other = refl
push_other (p ∷ ps) place d (suc i) other = push_other ps place d i (λ same. other (ap suc same))

pub push_follows : (sets : List Free) (places : List Place) (k : ℕ) (place : Place) (old free : Free) → Follows sets places → k ≡ length places → k < 256
    → place.function < length sets → old ≡ get_or sets place.function old → IsWhole free → HasClass free k place.class
    → ((i : ℕ) → i < 256 → i ≢ k → SameAt old free i)
    → Follows (set sets place.function free) (places ++ place ∷ [])
push_follows sets places k place old free follows last within function was whole noted same =
    notes_follow sets places (places ++ place ∷ []) k place old free
    (record {
      fits = rw (length-append places (place ∷ [])) (omega (arith, last, within));
      function = function;
      here = get_or_push places place no_place k (sym last);
      others = λ i other. push_other places place no_place i (λ same. other (same ∙ sym last));
      before = λ f other. ap (class_for f) (get_or_past places k no_place (omega (arith, last))) ∙ class_of_none f;
      was = was;
      whole = whole;
      noted = noted;
      same = same;
    })
    follows

-- an environment's function has its sets
pub function_there : (config : Config) (index count function size : ℕ) → count ≡ length (owners config) → index < count
    → function ≡ function_of config (index + 1)
    → size ≡ length config.functions + 1 → function < size
function_there config index count function size all within is sized =
    let owner = owner_is_function config (index + 1) (omega arith) (omega (arith, all, within)) in
    let last = owner.1 in
    omega (arith, last, is, sized)
