-- Lists by numbers.
use Rattle.std.proofs.Common.{◌≡◌, ℕ, zero, suc, ◌+◌, ◌-◌, ◌<◌, ◌≤◌, List, [], ◌∷◌, ◌++◌, length, map, get_or, sym}
use Rattle.std.proofs.Common.{refl, ap, ◌∙◌, arith, append_assoc, length-append, sum_by, ap₂}
use Rattle.std.proofs.lemmas.List.Sums.{sum_by-cons}
use Rattle.arn_ids.specs.Environments.{at, numbered, count_from}
use Rattle.arn_ids.proofs.Counting.{numbered_at, at_get_or, at_back}
use Rattle.concurrency_pool.specs.declared.pool.Usage.{Usage}
use Rattle.concurrency_pool.specs.Numbers.{Numbers}
use Rattle.concurrency_pool.specs.Pools.{usage_at}
use Rattle.concurrency_pool.specs.Usages.{no_usage}

-- the function with a number is the one at its index
pub usage_is_at : (pool : Numbers) (f : ℕ) (d : Usage) → 1 ≤ f → f ≤ length pool.functions → usage_at pool f ≡ get_or pool.functions (f - 1) d
usage_is_at pool f d from_one there = numbered_at no_usage pool.functions f from_one ∙ at_get_or no_usage d pool.functions (f - 1) (omega arith)

-- what is numbered, at an index
pub at_numbered : {A : Type 0} (d : A) (g : ℕ → A) (a n i : ℕ) → i < n → at d (map g (count_from a n)) i ≡ g (a + i)
at_numbered d g a zero i lt = absurd (omega (arith, lt))
at_numbered d g a (suc n) zero lt = let same : a ≡ a + 0 = omega arith in ap g same
at_numbered d g a (suc n) (suc i) lt = let same : suc a + i ≡ a + suc i = omega arith in at_numbered d g (suc a) n i (omega (arith, lt)) ∙ ap g same

-- and by its number
pub numbered_is : {A : Type 0} (d : A) (g : ℕ → A) (n f : ℕ) → 1 ≤ f → f ≤ n → numbered d (map g (count_from 1 n)) f ≡ g f
numbered_is d g n f from_one there =
    let same : 1 + (f - 1) ≡ f = omega (arith, from_one) in
    numbered_at d (map g (count_from 1 n)) f from_one ∙ at_numbered d g 1 n (f - 1) (omega (arith, from_one, there)) ∙ ap g same

-- a sum over what is said of each element
pub sum_map : {A B : Type 0} (r : B → ℕ) (g : A → B) (xs : List A) → sum_by r (map g xs) ≡ sum_by (λ x. r (g x)) xs
sum_map r g [] = refl
sum_map r g (x ∷ xs) = sum_by-cons r (g x) (map g xs) ∙ ap (λ n. r (g x) + n) (sum_map r g xs) ∙ sym (sum_by-cons (λ y. r (g y)) x xs)

-- sums of one number each
pub sum_same : {A : Type 0} (r s : A → ℕ) → ((x : A) → r x ≡ s x) → (xs : List A) → sum_by r xs ≡ sum_by s xs
sum_same r s same [] = refl
sum_same r s same (x ∷ xs) = sum_by-cons r x xs ∙ ap₂ ◌+◌ (same x) (sum_same r s same xs) ∙ sym (sum_by-cons s x xs)

-- a sum of nothings
pub sum_nothing : {A : Type 0} (r : A → ℕ) → ((x : A) → r x ≡ 0) → (xs : List A) → sum_by r xs ≡ 0
sum_nothing r none [] = refl
sum_nothing r none (x ∷ xs) = sum_by-cons r x xs ∙ ap₂ ◌+◌ (none x) (sum_nothing r none xs)

-- what is said of a list's elements, in the order of their numbers
map_behind : {A B : Type 0} (d : A) (r : A → B) (before xs : List A)
    → map (λ f. r (numbered d (before ++ xs) f)) (count_from (suc (length before)) (length xs)) ≡ map r xs
map_behind d r before [] = refl
map_behind {A} d r before (x ∷ xs) =
    let front : at d (before ++ x ∷ xs) (length before) ≡ x = at_back d before (x ∷ xs) (length before) (omega arith) ∙ (let e : length before - length before ≡ 0 = omega arith in rw e refl) in
    let more : length (before ++ x ∷ []) ≡ suc (length before) = length-append before (x ∷ []) ∙ omega arith in
    let rest = rw (append_assoc before (x ∷ []) xs, more) at (map_behind {A = A} d r (before ++ x ∷ []) xs) in
    ap₂ (λ y ys. y ∷ ys) (ap r front) rest

pub map_by_number : {A B : Type 0} (d : A) (r : A → B) (xs : List A) → map (λ f. r (numbered d xs f)) (count_from 1 (length xs)) ≡ map r xs
map_by_number d r xs = map_behind d r [] xs
