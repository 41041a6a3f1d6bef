-- What a list is that is cut into blocks of one width.
use Rattle.std.proofs.Common.{◌≡◌, sym, ◌∙◌, ap, ap₂, arith, ℕ, zero, suc, ◌+◌, ◌*◌, ◌<◌, ◌≤◌, List, [], ◌∷◌, ◌++◌, length, take, drop, set, get_or}
use Rattle.std.specs.List.{flat_map}
use Rattle.std.proofs.lemmas.List.{drop-drop, take_all, drop_all, take-set-le, drop-set-lt, drop-set-add}
use Rattle.std.proofs.lemmas.List.{take-append-le, drop-append-le, take-append-drop, length-drop, length_push}
use Rattle.std.proofs.lemmas.List.{nil_from_length}
use Rattle.std.proofs.Math.Seq.{take-set-lt}
use Rattle.entry_blocks.specs.Rows.{cut}

next_block : {X : Type 0} (w q : ℕ) (xs : List X) → drop (w * q) (drop w xs) ≡ drop (w * suc q) xs
next_block w q xs =
    let same : w + w * q ≡ w * suc q = omega arith in
    drop-drop (w * q) w xs ∙ ap (λ (k : ℕ). drop k xs) same

first_block : {X : Type 0} (w : ℕ) (xs : List X) → drop (w * 0) xs ≡ xs
first_block w xs =
    let none : w * 0 ≡ 0 = omega arith in
    ap (λ (k : ℕ). drop k xs) none

-- a block has what stands in the list from so many widths on
pub get_or-cut : {X : Type 0} (w n q : ℕ) (xs d : List X) → q < n → get_or (cut w n xs) q d ≡ take w (drop (w * q) xs)
get_or-cut w zero q xs d lt = absurd (omega arith)
get_or-cut w (suc n) zero xs d lt = ap (take w) (sym (first_block w xs))
get_or-cut w (suc n) (suc q) xs d lt = get_or-cut w n q (drop w xs) d (omega arith) ∙ ap (take w) (next_block w q xs)

-- with one more item at the list's end, only the block is another where it goes
pub set-cut : {X : Type 0} (w n q : ℕ) (xs : List X) (x : X) → length xs < w * n → w * q ≤ length xs
    → length xs < w * q + w → set (cut w n xs) q (take w (drop (w * q) xs) ++ x ∷ []) ≡ cut w n (xs ++ x ∷ [])
set-cut w zero q xs x within from to = absurd (omega arith)
set-cut w (suc n) zero xs x within from to =
    let few : length xs ≤ w = omega arith in
    let still_few : length (xs ++ x ∷ []) ≤ w = omega (arith, length_push xs x) in
    ap₂ (λ a b. a ∷ cut w n b)
    (ap (λ a. a ++ x ∷ []) (ap (take w) (first_block w xs) ∙ take_all w xs few) ∙ sym (take_all w (xs ++ x ∷ []) still_few))
    (drop_all w xs few ∙ sym (drop_all w (xs ++ x ∷ []) still_few))
set-cut w (suc n) (suc q) xs x within from to =
    let full : w ≤ length xs = omega arith in
    ap₂ (λ a b. a ∷ b)
    (sym (take-append-le w xs (x ∷ []) full))
    (ap (λ a. set (cut w n (drop w xs)) q (take w a ++ x ∷ [])) (sym (next_block w q xs))
    ∙ set-cut w n q (drop w xs) x (omega (arith, length-drop w xs)) (omega (arith, length-drop w xs)) (omega (arith, length-drop w xs))
    ∙ ap (cut w n) (sym (drop-append-le w xs (x ∷ []) full)))

-- with an item in the place of another, only the block is another where it stands
pub set-in_cut : {X : Type 0} (w n q r : ℕ) (xs : List X) (x : X) → q < n → r < w
    → set (cut w n xs) q (set (take w (drop (w * q) xs)) r x) ≡ cut w n (set xs (w * q + r) x)
set-in_cut w zero q r xs x there inside = absurd (omega arith)
set-in_cut w (suc n) zero r xs x there inside =
    let place : w * 0 + r ≡ r = omega arith in
    ap₂ (λ a b. a ∷ cut w n b)
    (ap (λ a. set (take w a) r x) (first_block w xs) ∙ sym (take-set-lt w xs r x inside))
    (sym (drop-set-lt w xs r x inside))
    ∙ ap (λ i. cut w (suc n) (set xs i x)) (sym place)
set-in_cut w (suc n) (suc q) r xs x there inside =
    let place : w + (w * q + r) ≡ w * suc q + r = omega arith in
    ap₂ (λ a b. a ∷ b)
    (sym (take-set-le w xs (w + (w * q + r)) x (omega arith)))
    (ap (λ a. set (cut w n (drop w xs)) q (set (take w a) r x)) (sym (next_block w q xs))
    ∙ set-in_cut w n q r (drop w xs) x (omega arith) inside
    ∙ ap (cut w n) (sym (drop-set-add w xs (w * q + r) x)))
    ∙ ap (λ i. cut w (suc n) (set xs i x)) place

-- one more block holds nothing
pub cut_more : {X : Type 0} (w n : ℕ) (xs : List X) → length xs ≤ w * n → cut w n xs ++ [] ∷ [] ≡ cut w (suc n) xs
cut_more w zero xs few =
    let none : xs ≡ [] = nil_from_length xs (omega arith) in
    ap (λ a. a ∷ []) (sym (take_all w xs (omega arith) ∙ none))
cut_more w (suc n) xs few = ap (λ a. take w xs ∷ a) (cut_more w n (drop w xs) (omega (arith, length-drop w xs)))

-- the blocks one after the other are the list
pub joined_cut : {X : Type 0} (w n : ℕ) (xs : List X) → length xs ≤ w * n → flat_map (λ (a : List X). a) (cut w n xs) ≡ xs
joined_cut w zero xs few = sym (nil_from_length xs (omega arith))
joined_cut w (suc n) xs few = ap (λ a. take w xs ++ a) (joined_cut w n (drop w xs) (omega (arith, length-drop w xs))) ∙ take-append-drop w xs
