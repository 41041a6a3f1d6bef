-- Places in a list, and how the environments of the functions from one on follow from those of the next.
use Rattle.std.proofs.Common.{◌≡◌, ℕ, zero, suc, ◌+◌, ◌-◌, ◌<◌, ◌≤◌, List, [], ◌∷◌, ◌++◌, length, map, get_or, drop}
use Rattle.std.proofs.Common.{refl, ap, ◌∙◌, arith, add-one, add-suc, drop-cons, length-append}
use Rattle.std.proofs.lemmas.List.{length-map}
use Rattle.arn_ids.specs.Environments.{at, numbered, no_function, owners_from}
use Rattle.arn_ids.specs.declared.config.Function.{Function}

-- an element that is there is the same whatever stands for one that isn't
pub at_get_or : {A : Type 0} (d e : A) (xs : List A) (i : ℕ) → i < length xs → at d xs i ≡ get_or xs i e
at_get_or d e [] i lt = absurd (omega arith)
at_get_or d e (x ∷ xs) zero lt = refl
at_get_or d e (x ∷ xs) (suc i) lt = at_get_or d e xs i (omega arith)

-- numbers begin at 1
pub numbered_at : {A : Type 0} (d : A) (xs : List A) (n : ℕ) → 1 ≤ n → numbered d xs n ≡ at d xs (n - 1)
numbered_at d xs zero le = absurd (omega arith)
numbered_at d xs (suc n) le = ap (at d xs) (let e : n ≡ suc n - 1 = omega arith in e)

-- a place within the first of two lists
pub at_front : {A : Type 0} (d : A) (xs ys : List A) (i : ℕ) → i < length xs → at d (xs ++ ys) i ≡ at d xs i
at_front d [] ys i lt = absurd (omega arith)
at_front d (x ∷ xs) ys zero lt = refl
at_front d (x ∷ xs) ys (suc i) lt = at_front d xs ys i (omega arith)

-- a place behind it
pub at_back : {A : Type 0} (d : A) (xs ys : List A) (i : ℕ) → length xs ≤ i → at d (xs ++ ys) i ≡ at d ys (i - length xs)
at_back d [] ys i le = ap (at d ys) (let e : i ≡ i - 0 = omega arith in e)
at_back d (x ∷ xs) ys zero le = absurd (omega arith)
at_back d (x ∷ xs) ys (suc i) le = at_back d xs ys i (omega arith) ∙ ap (at d ys) (let e : i - length xs ≡ suc i - suc (length xs) = omega arith in e)

-- a place in a list whose elements are all one
pub at_same : {A B : Type 0} (d b : B) (xs : List A) (i : ℕ) → i < length xs → at d (map (λ _. b) xs) i ≡ b
at_same d b [] i lt = absurd (omega arith)
at_same d b (x ∷ xs) zero lt = refl
at_same d b (x ∷ xs) (suc i) lt = at_same d b xs i (omega arith)

-- the environments of a function, and those of the functions behind it
pub owners_step : (f : ℕ) (functions : List Function) (i : ℕ) (function : Function) → i < length functions → function ≡ get_or functions i function
    → owners_from (f + i) (drop i functions) ≡ map (λ _. (f + i, function)) function.slots ++ owners_from (f + (i + 1)) (drop (i + 1) functions)
owners_step f functions i function lt is = rw (add-one, add-suc, drop-cons functions i function lt, ← is) refl

-- how many they are
pub count_step : (f : ℕ) (functions : List Function) (i : ℕ) (function : Function) → i < length functions → function ≡ get_or functions i function
    → length (owners_from (f + i) (drop i functions)) ≡ length function.slots + length (owners_from (f + (i + 1)) (drop (i + 1) functions))
count_step f functions i function lt is =
    rw
    (owners_step f functions i function lt is, length-append (map (λ _. (f + i, function)) function.slots) (owners_from (f + (i + 1)) (drop (i + 1) functions)), length-map {B = ℕ × Function} function.slots (λ _. (f + i, function))) refl

-- the function of an environment that is one of the first function's
pub owner_here : (functions : List Function) (i place : ℕ) (function : Function) → i < length functions → function ≡ get_or functions i function
    → place < length function.slots → at (0, no_function) (owners_from (1 + i) (drop i functions)) place ≡ (1 + i, function)
owner_here functions i place function lt is within =
    let own : List (ℕ × Function) = map (λ _. (1 + i, function)) function.slots in
    let fits : place < length own = rw (length-map {B = ℕ × Function} function.slots (λ _. (1 + i, function))) within in
    rw (owners_step 1 functions i function lt is)
    (at_front (0, no_function) own (owners_from (1 + (i + 1)) (drop (i + 1) functions)) place fits
    ∙ at_same (0, no_function) (1 + i, function) function.slots place within)

-- and of one that isn't
pub owner_later : (functions : List Function) (i place : ℕ) (function : Function) → i < length functions → function ≡ get_or functions i function
    → length function.slots ≤ place
    → at (0, no_function) (owners_from (1 + i) (drop i functions)) place ≡ at (0, no_function) (owners_from (1 + (i + 1)) (drop (i + 1) functions)) (place - length function.slots)
owner_later functions i place function lt is beyond =
    let own : List (ℕ × Function) = map (λ _. (1 + i, function)) function.slots in
    let as_many : length own ≡ length function.slots = length-map {B = ℕ × Function} function.slots (λ _. (1 + i, function)) in
    rw (owners_step 1 functions i function lt is)
    (at_back (0, no_function) own (owners_from (1 + (i + 1)) (drop (i + 1) functions)) place (rw as_many beyond)
    ∙ ap (λ n. at (0, no_function) (owners_from (1 + (i + 1)) (drop (i + 1) functions)) (place - n)) as_many)
