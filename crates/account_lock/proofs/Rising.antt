-- Which tickets stand behind greater ones.
use Rattle.std.proofs.Common.{◌≡◌, ◌≢◌, ℕ, ◌+◌, ◌<◌, ◌≤◌, ◌==◌, Bool, true, false, cond, List, [], ◌∷◌, ◌++◌, length}
use Rattle.std.proofs.Common.{take, get_or, Option, max, refl, sym, ap, ◌∙◌, subst, arith}
use Rattle.std.specs.Prelude.{nat_lt}
use Rattle.std.proofs.lemmas.Bool.Decides.{nat_tests}
use Rattle.std.proofs.lemmas.List.{take_more}
use Rattle.std.proofs.lemmas.List.Sums.{sum_by_push}
use Rattle.account_lock.specs.Gathered.{occurrences}
use Rattle.account_lock.specs.Failing.{FirstFailure, lesser}
use Rattle.account_lock.specs.Settlement.{Rises}
use Rattle.account_lock.proofs.FirstFailures.{same, both}

-- the highest ticket
abbrev pub highest : {X : Type 0} → List (ℕ × X) → ℕ
highest [] = 0
highest (pair ∷ pairs) = max pair.0 (highest pairs)

pub highest-push : {X : Type 0} (pairs : List (ℕ × X)) (pair : ℕ × X) → highest (pairs ++ pair ∷ []) ≡ max (highest pairs) pair.0
highest-push [] pair = omega arith
highest-push (x ∷ pairs) pair = let r = highest-push pairs pair in omega arith

at_itself : (a t : ℕ) (b : Bool) → (a == t) ≡ b → a ≡ t → ◌≡◌ {A = ℕ} (cond b 1 0) 1
at_itself a t true e is = refl
at_itself a t false e is = grind (arith, nat_tests)

elsewhere : (a t : ℕ) (b : Bool) → (a == t) ≡ b → a ≢ t → ◌≡◌ {A = ℕ} (cond b 1 0) 0
elsewhere a t true e other = grind (arith, nat_tests)
elsewhere a t false e other = refl

occurrences-push : {X : Type 0} (t : ℕ) (pairs : List (ℕ × X)) (pair : ℕ × X)
    → occurrences t (pairs ++ pair ∷ []) ≡ occurrences t pairs + cond (pair.0 == t) 1 0
occurrences-push {X = X} t pairs pair = sum_by_push (λ (p : ℕ × X). cond (p.0 == t) 1 0) pairs pair

-- one ticket more, which stands behind the others
rises-push : {X : Type 0} (pairs : List (ℕ × X)) (pair : ℕ × X) (t : ℕ) → Rises pairs t → (pair.0 ≡ t → highest pairs ≤ t) → Rises (pairs ++ pair ∷ []) t
rises-push [] pair t r last = ((λ lt. refl), tt)
rises-push (x ∷ pairs) pair t r last = (
  (λ lt. let never : pair.0 ≢ t = (λ e. let l = last e in absurd (omega arith)) in omega (arith, occurrences-push t pairs pair, r.0 lt, elsewhere pair.0 t (pair.0 == t) refl never)),
  rises-push pairs pair t r.1 (λ e. let l = last e in omega arith),
)

rises-token : {X : Type 0} (pairs : List (ℕ × X)) (pair : ℕ × X) (t : ℕ) → Rises (pairs ++ pair ∷ []) t → Rises pairs t
rises-token [] pair t r = tt
rises-token (x ∷ pairs) pair t r = ((λ lt. omega (arith, r.0 lt, occurrences-push t pairs pair)), rises-token pairs pair t r.1)

is_last : {X : Type 0} (pairs : List (ℕ × X)) (pair : ℕ × X) (t : ℕ) → Rises (pairs ++ pair ∷ []) t → pair.0 ≡ t → highest pairs ≤ t
is_last [] pair t r e = omega arith
is_last (x ∷ pairs) pair t r e = step (nat_lt t x.0) refl (is_last pairs pair t r.1 e)
  where
    step : (b : Bool) → nat_lt t x.0 ≡ b → highest pairs ≤ t → max x.0 (highest pairs) ≤ t
    step true lt rest =
        let below : t < x.0 = grind (arith, nat_tests) in
        absurd (omega (arith, r.0 below, occurrences-push t pairs pair, at_itself pair.0 t (pair.0 == t) refl e))
    step false lt rest = let above : x.0 ≤ t = grind (arith, nat_tests) in omega arith

-- one step of a search for a ticket behind a greater one
pub rising_more : {X : Type 0} (pairs : List (ℕ × X)) (i : ℕ) (d : ℕ × X) (top : ℕ) (f g : Option ℕ) → i < length pairs → top ≡ highest (take i pairs)
    → FirstFailure (Rises (take i pairs)) f → FirstFailure (λ t. (get_or pairs i d).0 ≡ t → top ≤ t) g → FirstFailure (Rises (take (i + 1) pairs)) (lesser f g)
rising_more {X = X} pairs i d top f g at is p q =
    subst (λ (xs : List (ℕ × X)). FirstFailure (Rises xs) (lesser f g)) (sym (take_more pairs i d at))
    (same (λ t. Rises (take i pairs) t × ((get_or pairs i d).0 ≡ t → top ≤ t)) (Rises (take i pairs ++ get_or pairs i d ∷ [])) (lesser f g)
    (λ t w. rises-push (take i pairs) (get_or pairs i d) t w.0 (λ e. let l = w.1 e in omega arith))
    (λ t w. (rises-token (take i pairs) (get_or pairs i d) t w, (λ e. let l = is_last (take i pairs) (get_or pairs i d) t w e in omega arith)))
    (both (Rises (take i pairs)) (λ t. (get_or pairs i d).0 ≡ t → top ≤ t) f g p q))

-- and of the highest ticket
pub highest_more : {X : Type 0} (pairs : List (ℕ × X)) (i : ℕ) (d : ℕ × X) (top next : ℕ) → i < length pairs → top ≡ highest (take i pairs)
    → next ≡ max top (get_or pairs i d).0 → next ≡ highest (take (i + 1) pairs)
highest_more pairs i d top next at is more =
    more ∙ ap (λ n. max n (get_or pairs i d).0) is ∙ sym (highest-push (take i pairs) (get_or pairs i d)) ∙ ap highest (sym (take_more pairs i d at))
