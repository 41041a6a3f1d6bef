-- The first free environment of the sets is the definitions' one.
use Rattle.std.proofs.Common.{◌≡◌, ℕ, suc, ◌-◌, ◌<◌, ◌≤◌, Bool, true, false, cond, ◌&&◌, ◌==◌, List, length, get_or}
use Rattle.std.proofs.Common.{Option, Some, None, IfSome, IfNone, refl, sym, ap, ap₂, ◌∙◌, inl, inr, arith, subst}
use Rattle.std.specs.List.{position_or_len}
use Rattle.std.specs.Option.{option_or}
use Rattle.std.proofs.lemmas.Bool.{cases_lt, true≢false, lt-ltb, le-ltb, ne_eqb, and_left}
use Rattle.std.proofs.lemmas.List.{get_or_past}
use Rattle.std.proofs.lemmas.List.Sums.{position_or_len_is}
use Rattle.call_model.specs.History.{or_else}
use Rattle.placement.specs.declared.class.Class.{Class}
use Rattle.placement.specs.declared.class.Class.TheVariants.{Idle, StartingFree, ClosingFree, Taken}
use Rattle.placement.specs.declared.env_set.EnvSet.{EnvSet}
use Rattle.placement.specs.declared.free.Free.{Free}
use Rattle.placement.specs.declared.places.Place.{Place}
use Rattle.placement.specs.Class.{is_class}
use Rattle.placement.specs.Places.{no_place, is_of, lowest_of, place_among}
use Rattle.placement.specs.Sets.{has_at, IsLowest, class_for, Marks, Follows}

-- an environment of no function has no class that takes an invocation
pub class_of_none : (f : ℕ) → class_for f no_place ≡ Taken
class_of_none f = go (0 == f)
  where
    go : (b : Bool) → cond b Taken Taken ≡ Taken
    go true = refl
    go false = refl

-- a class that takes an invocation is that of an environment of the function alone
class_is : (class : Class) → is_class class Taken ≡ false → (f : ℕ) (place : Place) → is_class class (class_for f place) ≡ is_of f class place
class_is class free f place = go (place.function == f)
  where
    go : (b : Bool) → is_class class (cond b place.class Taken) ≡ (b && is_class class place.class)
    go true = refl
    go false = free

-- a list in which none passes has no first that does
lowest_none : (f : ℕ) (class : Class) (places : List Place)
    → ((i : ℕ) → i < length places → is_of f class (get_or places i no_place) ≡ false) → lowest_of f class places ≡ None
lowest_none f class places none =
    let end : position_or_len (is_of f class) places ≡ length places =
    position_or_len_is (is_of f class) places (length places) no_place (omega arith) none (λ within. absurd (omega arith)) in
    rw (end, le-ltb (length places) (length places) (omega arith)) refl

-- what is said of the lowest of a set
pub record Finds (set : EnvSet) (o : Option ℕ) : Type 0 where
  pub some : IfSome o (IsLowest set)
  pub none : IfNone o ((i : ℕ) → i < 256 → has_at set i ≡ false)

module _ (set : EnvSet) (f : ℕ) (class : Class) (free : is_class class Taken ≡ false) (places : List Place) (fits : length places ≤ 256)
    (marked : (i : ℕ) → i < 256 → has_at set i ≡ is_class class (class_for f (get_or places i no_place)))
  where
    has_is : (i : ℕ) → i < 256 → is_of f class (get_or places i no_place) ≡ has_at set i
    has_is i within = sym (marked i within ∙ class_is class free f (get_or places i no_place))

    -- an environment in the set is one of the list
    listed : (i : ℕ) → i < 256 → has_at set i ≡ true → i < length places
    listed i within is_in =
        elim (cases_lt i (length places)) [
          | inl there ↦ there
          | inr beyond ↦
              let class_there : class_for f (get_or places i no_place) ≡ Taken = ap (class_for f) (get_or_past places i no_place beyond) ∙ class_of_none f in
              absurd (true≢false (sym is_in ∙ marked i within ∙ ap (is_class class) class_there ∙ free))
        ]

    some_is : (e : ℕ) → IsLowest set e → lowest_of f class places ≡ Some e
    some_is e lowest =
        let within : e - 1 < 256 = omega (arith, lowest.from_one, lowest.within) in
        let there : e - 1 < length places = listed (e - 1) within lowest.is_in in
        let first : position_or_len (is_of f class) places ≡ e - 1 =
        position_or_len_is (is_of f class) places (e - 1) no_place (omega (arith, there))
        (λ k lower. has_is k (omega (arith, lower, within)) ∙ lowest.below k lower)
        (λ _. has_is (e - 1) within ∙ lowest.is_in) in
        let number : suc (e - 1) ≡ e = omega (arith, lowest.from_one) in
        rw (first, lt-ltb (e - 1) (length places) there) (ap (λ (k : ℕ). Some k) number)

    none_is : ((i : ℕ) → i < 256 → has_at set i ≡ false) → lowest_of f class places ≡ None
    none_is none = lowest_none f class places (λ i there. let within : i < 256 = omega (arith, there, fits) in has_is i within ∙ none i within)

    -- the lowest numbered environment of a set is the function's lowest of the class
    first_is : (o : Option ℕ) → Finds set o → o ≡ lowest_of f class places
    first_is None finds = sym (none_is finds.none)
    first_is (Some e) finds = sym (some_is e finds.some)

-- the first of three
either_of : (a b c : Option ℕ) → option_or (option_or a b) c ≡ or_else a (or_else b c)
either_of None None c = refl
either_of None (Some y) c = refl
either_of (Some x) b c = refl

-- where a function's next invocation goes, by its sets
pub place_found : (free : Free) (f : ℕ) (places : List Place) → length places ≤ 256 → Marks free f places
    → (idle starting closing : Option ℕ) → Finds free.idle idle → Finds free.starting starting → Finds free.closing closing
    → option_or (option_or idle starting) closing ≡ place_among places f
unfolding place_among
place_found free f places fits marks idle starting closing in_idle in_starting in_closing =
    let first : idle ≡ lowest_of f Idle places = first_is free.idle f Idle refl places fits (λ i within. (marks.marked i within).idle) idle in_idle in
    let second : starting ≡ lowest_of f StartingFree places = first_is free.starting f StartingFree refl places fits (λ i within. (marks.marked i within).starting) starting in_starting in
    let third : closing ≡ lowest_of f ClosingFree places = first_is free.closing f ClosingFree refl places fits (λ i within. (marks.marked i within).closing) closing in_closing in
    either_of idle starting closing ∙ ap₂ or_else first (ap₂ or_else second third)

-- the sets of a function
pub marks_at : (sets : List Free) (places : List Place) (f : ℕ) (free : Free) → Follows sets places → f < length sets
    → free ≡ get_or sets f free → Marks free f places
marks_at sets places f free follows there is = subst (λ (g : Free). Marks g f places) (sym is) (follows.marks f free there)

-- a function that isn't there has no environment
pub none_found : (sets : List Free) (f : ℕ) (places : List Place) → Follows sets places → length sets ≤ f → place_among places f ≡ None
unfolding place_among
none_found sets f places follows beyond = rw (none Idle, none StartingFree, none ClosingFree) refl
  where
    none : (class : Class) → lowest_of f class places ≡ None
    none class =
        lowest_none f class places (λ i there. let known = follows.known i there in
        and_left ((get_or places i no_place).function == f) (is_class class (get_or places i no_place).class)
        (ne_eqb (get_or places i no_place).function f (λ same. absurd (omega (arith, known, beyond, same)))))
