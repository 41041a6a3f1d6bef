-- The least ticket at which one of several properties fails.
use Rattle.std.proofs.Common.{◌≡◌, ◌≢◌, ℕ, ◌+◌, ◌<◌, ◌≤◌, Bool, true, false, List, length, take, get_or, Option, Some}
use Rattle.std.proofs.Common.{None, ◌⊎◌, inl, inr, refl, sym, ap, ◌∙◌, subst, min, arith}
use Rattle.std.specs.Prelude.{nat_le}
use Rattle.std.specs.List.{All}
use Rattle.std.proofs.lemmas.Bool.Decides.{nat_tests}
use Rattle.std.proofs.lemmas.List.{take_more}
use Rattle.std.proofs.lemmas.List.Elements.{All-more, All-pop}
use Rattle.account_lock.specs.Failing.{FailsFirstAt, FirstFailure, lesser}

le_of : (a b : ℕ) → nat_le a b ≡ true → a ≤ b
le_of a b e = grind (arith, nat_tests)

ge_of : (a b : ℕ) → nat_le a b ≡ false → b ≤ a
ge_of a b e = grind (arith, nat_tests)

which : (a b : ℕ) (test : Bool) → nat_le a b ≡ test → ((min a b ≡ a) × (a ≤ b)) ⊎ ((min a b ≡ b) × (b ≤ a))
which a b true e = let l = le_of a b e in inl (omega arith, l)
which a b false e = let l = ge_of a b e in inr (omega arith, l)

-- both of two properties
pub both : (P Q : ℕ → Type 0) (a b : Option ℕ) → FirstFailure P a → FirstFailure Q b → FirstFailure (λ t. P t × Q t) (lesser a b)
both P Q None None p q = λ t. (p t, q t)
both P Q None (Some u) p q = ((λ w. q.0 w.1), (λ k lt. (p k, q.1 k lt)))
both P Q (Some t) None p q = ((λ w. p.0 w.0), (λ k lt. (p.1 k lt, q k)))
both P Q (Some t) (Some u) p q =
    elim (which t u (nat_le t u) refl) [
      | inl w ↦ subst (λ (n : ℕ). FailsFirstAt (λ k. P k × Q k) n) (sym w.0) ((λ v. p.0 v.0), (λ k lt. (p.1 k lt, q.1 k (omega arith))))
      | inr w ↦ subst (λ (n : ℕ). FailsFirstAt (λ k. P k × Q k) n) (sym w.0) ((λ v. q.0 v.1), (λ k lt. (p.1 k (omega arith), q.1 k lt)))
    ]

-- a property that holds at the same tickets
pub same : (P Q : ℕ → Type 0) (f : Option ℕ) → ((t : ℕ) → P t → Q t) → ((t : ℕ) → Q t → P t) → FirstFailure P f → FirstFailure Q f
same P Q None there back p = λ t. there t (p t)
same P Q (Some t) there back p = ((λ w. p.0 (back t w)), (λ k lt. there k (p.1 k lt)))

-- one element more of a list whose elements have a property
pub all_more : {X : Type 0} (A : X → ℕ → Type 0) (xs : List X) (i : ℕ) (d : X) (f g : Option ℕ) → i < length xs
    → FirstFailure (λ t. All (λ x. A x t) (take i xs)) f → FirstFailure (A (get_or xs i d)) g
    → FirstFailure (λ t. All (λ x. A x t) (take (i + 1) xs)) (lesser f g)
all_more A xs i d f g at p q =
    same (λ t. All (λ x. A x t) (take i xs) × A (get_or xs i d) t) (λ t. All (λ x. A x t) (take (i + 1) xs)) (lesser f g)
    (λ t w. All-more (λ x. A x t) xs i d at w.0 w.1)
    (λ t w. All-pop (λ x. A x t) (take (i + 1) xs) (take i xs) (Some (get_or xs i d)) (take_more xs i d at) w)
    (both (λ t. All (λ x. A x t) (take i xs)) (A (get_or xs i d)) f g p q)

-- The same of what is read of the elements.
pub element_more : {X Y : Type 0} (A : Y → ℕ → Type 0) (part : X → Y) (xs : List X) (i : ℕ) (x : X) (y : Y) (f g : Option ℕ)
    → i < length xs → x ≡ get_or xs i x → y ≡ part x
    → FirstFailure (λ t. All (λ z. A (part z) t) (take i xs)) f → FirstFailure (A y) g
    → FirstFailure (λ t. All (λ z. A (part z) t) (take (i + 1) xs)) (lesser f g)
element_more {X = X} {Y = Y} A part xs i x y f g at is read p q =
    all_more (λ (z : X) t. A (part z) t) xs i x f g at p (subst (λ (z : Y). FirstFailure (A z) g) (read ∙ ap part is) q)

-- one pair, which is as wanted, or not
pub as_wanted : {X : Type 0} (wanted : ℕ → Option X) (t : ℕ) (x : X) → wanted t ≡ Some x → FirstFailure (λ k. t ≡ k → wanted k ≡ Some x) None
as_wanted wanted t x is = λ k e. subst (λ (n : ℕ). wanted n ≡ Some x) e is

pub not_wanted : {X : Type 0} (wanted : ℕ → Option X) (t : ℕ) (x : X) → wanted t ≢ Some x → FirstFailure (λ k. t ≡ k → wanted k ≡ Some x) (Some t)
not_wanted wanted t x never = ((λ w. never (w refl)), (λ k lt e. absurd (omega arith)))

-- a count of each ticket that must not pass one, with a mark where it isn't 0
pub counted_more : (len : ℕ) (S m T R : ℕ → ℕ) (f g : Option ℕ) → ((t : ℕ) → t < len → m t ≡ min 1 (S t)) → ((t : ℕ) → R t ≡ S t + T t)
    → FirstFailure (λ t. t < len → S t ≤ 1) f → FirstFailure (λ t. t < len → m t + T t ≤ 1) g → FirstFailure (λ t. t < len → R t ≤ 1) (lesser f g)
counted_more len S m T R f g is sum p q =
    same (λ t. (t < len → S t ≤ 1) × (t < len → m t + T t ≤ 1)) (λ t. t < len → R t ≤ 1) (lesser f g)
    (λ t w lt. let a = w.0 lt in let b = w.1 lt in let e = is t lt in let r = sum t in omega arith)
    (λ t w. ((λ lt. let a = w lt in let r = sum t in omega arith), (λ lt. let a = w lt in let e = is t lt in let r = sum t in omega arith)))
    (both (λ t. t < len → S t ≤ 1) (λ t. t < len → m t + T t ≤ 1) f g p q)

-- its marks
pub marked_more : (S m T R n : ℕ) → m ≡ min 1 S → n ≡ min 1 (m + T) → R ≡ S + T → n ≡ min 1 R
marked_more S m T R n is next sum = omega arith
