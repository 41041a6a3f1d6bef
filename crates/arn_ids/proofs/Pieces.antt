-- A list split at the elements that pass, by where the first of them is.
use Rattle.std.proofs.Common.{◌≡◌, ℕ, ◌+◌, ◌<◌, ◌≤◌, Bool, true, false, cond, nat_lt, List, [], ◌∷◌, length, take, drop, position, Some, None, refl, ◌∙◌, arith}
use Rattle.std.specs.List.{slice_split, position_or_len, onto_first}
use Rattle.std.proofs.lemmas.Bool.Decides.{nat_tests}
use Rattle.std.proofs.lemmas.Option.{cond_some}
use Rattle.std.proofs.lemmas.List.Elements.{All-from_get_or}
use Rattle.std.proofs.lemmas.List.Splits.{slice_split_first, slice_split_none}
use Rattle.std.proofs.lemmas.List.Sums.{fails_before_first}

pub split_some : (p : ℕ → Bool) (xs : List ℕ) (at : ℕ) → position p xs ≡ Some at → slice_split p xs ≡ take at xs ∷ slice_split p (drop (at + 1) xs)
split_some p xs at e =
    let found = cond_some (nat_lt (position_or_len p xs) (length xs)) (position_or_len p xs) at e in
    let within : position_or_len p xs < length xs = grind (arith, nat_tests) in
    slice_split_first p xs 0 within ∙ rw found.1 refl

not_there : (b : Bool) (n : ℕ) → cond b (Some n) None ≡ None → b ≡ false
not_there true n e = cc
not_there false n e = refl

pub split_none : (p : ℕ → Bool) (xs : List ℕ) → position p xs ≡ None → slice_split p xs ≡ xs ∷ []
split_none p xs e =
    let far = not_there (nat_lt (position_or_len p xs) (length xs)) (position_or_len p xs) e in
    let past : length xs ≤ position_or_len p xs = grind (arith, nat_tests) in
    slice_split_none p xs (All-from_get_or (λ x. p x ≡ false) xs 0 (λ i within. fails_before_first p xs i 0 (omega arith)))

begins_onto : (b : Bool) (x : ℕ) (rest : List (List ℕ)) → (q : List ℕ) × (qs : List (List ℕ)) × (rest ≡ q ∷ qs)
    → (q : List ℕ) × (qs : List (List ℕ)) × (cond b ([] ∷ rest) (onto_first x rest) ≡ q ∷ qs)
begins_onto true x rest h = ([], rest, refl)
begins_onto false x rest (q, qs, e) = (x ∷ q, qs, rw e refl)

-- there is a first piece
pub pieces_begin : (p : ℕ → Bool) (xs : List ℕ) → (q : List ℕ) × (qs : List (List ℕ)) × (slice_split p xs ≡ q ∷ qs)
pieces_begin p [] = ([], [], refl)
pieces_begin p (x ∷ xs) = begins_onto (p x) x (slice_split p xs) (pieces_begin p xs)
