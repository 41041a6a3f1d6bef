-- Lists by numbers.
use Rattle.std.proofs.Common.{◌≡◌, ℕ, zero, suc, ◌+◌, ◌-◌, ◌≤◌, List, [], ◌∷◌, ◌++◌, length, map, get_or, refl, ap, ◌∙◌, arith}
use Rattle.std.proofs.lemmas.List.{length-map}
use Rattle.arn_ids.specs.Environments.{count_from}
use Rattle.arn_ids.proofs.Counting.{numbered_at, at_get_or}
use Rattle.placement.specs.declared.places.Place.{Place}
use Rattle.placement.specs.Places.{place_at, no_place}

-- the environment with a number is the one at its index
pub place_is_at : (places : List Place) (e : ℕ) (d : Place) → 1 ≤ e → e ≤ length places → place_at places e ≡ get_or places (e - 1) d
place_is_at places e d from_one there = numbered_at no_place places e from_one ∙ at_get_or no_place d places (e - 1) (omega arith)

-- one number more
next_number : {A : Type 0} (g : ℕ → A) (a n : ℕ) → map g (count_from a (suc n)) ≡ map g (count_from a n) ++ g (a + n) ∷ []
next_number g a zero = let same : a ≡ a + 0 = omega arith in ap (λ k. g k ∷ []) same
next_number g a (suc n) =
    let same : suc a + n ≡ a + suc n = omega arith in ap (λ xs. g a ∷ xs) (next_number g (suc a) n ∙ ap (λ k. map g (count_from (suc a) n) ++ g k ∷ []) same)

pub count_more : {A : Type 0} (g : ℕ → A) (a n : ℕ) → map g (count_from a (n + 1)) ≡ map g (count_from a n) ++ g (a + n) ∷ []
count_more g a n = ap (λ k. map g (count_from a k)) (plus n) ∙ next_number g a n
  where
    plus : (n : ℕ) → n + 1 ≡ suc n
    plus n = omega arith

count_length : (a n : ℕ) → length (count_from a n) ≡ n
count_length a zero = refl
count_length a (suc n) = ap suc (count_length (suc a) n)

-- how many are numbered
pub numbered_length : {A : Type 0} (g : ℕ → A) (a n : ℕ) → length (map g (count_from a n)) ≡ n
numbered_length {A} g a n = length-map {B = A} (count_from a n) g ∙ count_length a n
