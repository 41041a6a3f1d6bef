-- Lists of environments: in the order of their numbers, and in a loop in which one after the other takes a call.
use Rattle.std.proofs.Common.{◌≡◌, ℕ, zero, suc, ◌+◌, ◌<◌, List, [], ◌∷◌, ◌++◌, length, map, take, drop, get_or, set, refl, ap, ◌∙◌, arith}
use Rattle.arn_ids.specs.Environments.{count_from}

-- as many numbers
pub count_length : (a n : ℕ) → length (count_from a n) ≡ n
count_length a zero = refl
count_length a (suc n) = ap suc (count_length (suc a) n)

-- one number more
next_number : {A : Type 0} (g : ℕ → A) (a n : ℕ) → map g (count_from a (suc n)) ≡ map g (count_from a n) ++ g (a + n) ∷ []
next_number g a zero = let same : a ≡ a + 0 = omega arith in ap (λ k. g k ∷ []) same
next_number g a (suc n) =
    let same : suc a + n ≡ a + suc n = omega arith in ap (λ xs. g a ∷ xs) (next_number g (suc a) n ∙ ap (λ k. map g (count_from (suc a) n) ++ g k ∷ []) same)

pub count_more : {A : Type 0} (g : ℕ → A) (a n j : ℕ) → a + n ≡ j → map g (count_from a (n + 1)) ≡ map g (count_from a n) ++ g j ∷ []
count_more g a n j is = ap (λ k. map g (count_from a k)) (plus n) ∙ next_number g a n ∙ ap (λ k. map g (count_from a n) ++ g k ∷ []) is
  where
    plus : (n : ℕ) → n + 1 ≡ suc n
    plus n = omega arith

-- one that has not taken it is as it was
pub not_yet : {A : Type 0} (move : A → A) (xs : List A) (n : ℕ) (d : A) → n < length xs → get_or (map move (take n xs) ++ drop n xs) n d ≡ get_or xs n d
not_yet move [] n d lt = absurd (omega arith)
not_yet move (x ∷ xs) zero d lt = refl
not_yet move (x ∷ xs) (suc n) d lt = not_yet move xs n d (omega arith)

-- one more has taken it
pub one_more : {A : Type 0} (move : A → A) (xs : List A) (n : ℕ) (d : A) → n < length xs
    → set (map move (take n xs) ++ drop n xs) n (move (get_or xs n d)) ≡ map move (take (suc n) xs) ++ drop (suc n) xs
one_more move [] n d lt = absurd (omega arith)
one_more move (x ∷ xs) zero d lt = refl
one_more move (x ∷ xs) (suc n) d lt = ap (λ ys. move x ∷ ys) (one_more move xs n d (omega arith))

pub as_many : {A : Type 0} (move : A → A) (xs : List A) (n : ℕ) → length (map move (take n xs) ++ drop n xs) ≡ length xs
as_many move [] zero = refl
as_many move [] (suc n) = refl
as_many move (x ∷ xs) zero = refl
as_many move (x ∷ xs) (suc n) = ap suc (as_many move xs n)
