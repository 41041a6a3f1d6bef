-- Facts of Booleans, options, lists and counts.
use Rattle.std.proofs.Common.{◌≡◌, ℕ, ◌+◌, Bool, true, false, cond, eqb, List, [], ◌∷◌, Option, Some, None, sym, refl}
use Rattle.std.proofs.Common.{ap, ap₂, ◌∙◌, arith, inl, inr, ◌&&◌, ◌==◌, ◌<◌, zero, suc, map, true≢false, count_by}
use Rattle.std.proofs.Common.{◌||◌}
use Rattle.std.proofs.lemmas.Bool.{eqb-true}
use Rattle.std.specs.List.{list_any}
use Rattle.std.proofs.lemmas.Bool.Decides.{eqb_tells, nat_tests}
use Rattle.std.proofs.lemmas.List.Sums.{sum_by-cons}
use Rattle.arn_ids.specs.Environments.{count_from}
use Rattle.call_model.specs.Stand.{is_number}

pub eqb-self : (t : ℕ) → eqb t t ≡ true
eqb-self t = grind (arith, nat_tests)

pub and_left : (a b : Bool) → (a && b) ≡ true → a ≡ true
and_left true b q = refl
and_left false b q = q

pub and_right : (a b : Bool) → (a && b) ≡ true → b ≡ true
and_right true b q = q
and_right false b q = absurd (true≢false (sym q))

pub and_false : (b : Bool) → (b && false) ≡ false
and_false true = refl
and_false false = refl

pub number_some : (o : Option ℕ) (e : ℕ) → is_number o e ≡ true → o ≡ Some e
number_some None e q = absurd (true≢false (sym q))
number_some (Some d) e q = ap (λ (n : ℕ). Some n) (eqb-true d e q)

pub map_map : {A B C : Type 0} (f : B → C) (g : A → B) (xs : List A) → map (λ x. f (g x)) xs ≡ map f (map g xs)
map_map f g [] = refl
map_map f g (x ∷ xs) = ap (λ ys. f (g x) ∷ ys) (map_map f g xs)

pub map_same : {A B : Type 0} (f g : A → B) → ((x : A) → f x ≡ g x) → (xs : List A) → map f xs ≡ map g xs
map_same f g e [] = refl
map_same f g e (x ∷ xs) = ap₂ ◌∷◌ (e x) (map_same f g e xs)

pub count_cons : {X : Type 0} (p : X → Bool) (x : X) (xs : List X) → count_by p (x ∷ xs) ≡ cond (p x) 1 0 + count_by p xs
count_cons p x xs = sum_by-cons (λ y. cond (p y) 1 0) x xs

pub some-none : {A : Type 0} {a : A} → Some a ≡ None → ⊥
some-none q = cc

pub none-some : {A : Type 0} {a : A} → None ≡ Some a → ⊥
none-some q = cc

pub count_map : {X Y : Type 0} (p : Y → Bool) (f : X → Y) (xs : List X) → count_by p (map f xs) ≡ count_by (λ x. p (f x)) xs
count_map p f [] = refl
count_map p f (x ∷ xs) = count_cons p (f x) (map f xs) ∙ ap (λ (n : ℕ). cond (p (f x)) 1 0 + n) (count_map p f xs) ∙ sym (count_cons (λ y. p (f y)) x xs)

-- a number stands once in numbers that count up, or not at all
not_behind : (e a n : ℕ) → e < a → list_any (λ d. e == d) (count_from a n) ≡ false
not_behind e a zero lt = refl
not_behind e a (suc n) lt =
    let other : (e == a) ≡ false = grind (arith, nat_tests, lt) in
    rw other (not_behind e (suc a) n (omega (arith, lt)))

pub counted_once : (e : ℕ) (p : ℕ → Bool) (a n : ℕ)
    → count_by (λ d. (e == d) && p d) (count_from a n) ≡ cond (list_any (λ d. e == d) (count_from a n) && p e) 1 0
counted_once e p a zero = refl
counted_once e p a (suc n) = count_cons (λ (d : ℕ). (e == d) && p d) a (count_from (suc a) n) ∙ elim (eqb_tells e a) [
  | inl q ↦ here q.0 q.1 (counted_once e p (suc a) n)
  | inr q ↦ later q.0 (counted_once e p (suc a) n)
]
  where
    rest : ℕ
    rest = count_by (λ d. (e == d) && p d) (count_from (suc a) n)

    behind : Bool
    behind = list_any (λ d. e == d) (count_from (suc a) n)

    none : (m n : ℕ) → m ≡ n → 0 + m ≡ n
    none m n q = omega (arith, q)

    alone : (b : Bool) (m : ℕ) → m ≡ 0 → cond b 1 0 + m ≡ cond b 1 0
    alone true m q = omega (arith, q)
    alone false m q = omega (arith, q)

    here : (e == a) ≡ true → e ≡ a → rest ≡ cond (behind && p e) 1 0 → cond ((e == a) && p a) 1 0 + rest ≡ cond (((e == a) || behind) && p e) 1 0
    here q same k =
        let empty : rest ≡ 0 = k ∙ ap (λ (b : Bool). cond (b && p e) 1 0) (not_behind e (suc a) n (omega (arith, same))) in
        rw (q, sym (ap p same)) (alone (p e) rest empty)

    later : (e == a) ≡ false → rest ≡ cond (behind && p e) 1 0 → cond ((e == a) && p a) 1 0 + rest ≡ cond (((e == a) || behind) && p e) 1 0
    later q k = rw q (none rest _ k)
