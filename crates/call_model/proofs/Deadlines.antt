-- Lists by deadline: that they are in order, what is left out of one, and that it has what was put into it.
use Rattle.std.proofs.Common.{◌≡◌, ℕ, ◌≤◌, Bool, true, false, List, [], ◌∷◌, sym, refl, ap, ◌∙◌, arith, cond, suc}
use Rattle.std.proofs.Common.{length, count_by, ◌+◌, ◌&&◌, filter, if◌then◌else◌, nat_le}
use Rattle.std.proofs.lemmas.Bool.Decides.{nat_tests}
use Rattle.std.specs.List.{list_all}
use Rattle.call_model.specs.Next.{in_order, by_deadline}
use Rattle.call_model.proofs.Basics.{count_cons}

-- a list by deadlines
abbrev pub AllLe : ℕ → List (ℕ × ℕ) → Type 0
AllLe n [] = Unit {0}
AllLe n (x ∷ xs) = (n ≤ x.0) × AllLe n xs

abbrev pub IsSorted : List (ℕ × ℕ) → Type 0
IsSorted [] = Unit {0}
IsSorted (x ∷ xs) = AllLe x.0 xs × IsSorted xs

pub all_less : (m n : ℕ) (xs : List (ℕ × ℕ)) → m ≤ n → AllLe n xs → AllLe m xs
all_less m n [] le o = tt
all_less m n (x ∷ xs) le o = (omega (arith, le, o.0), all_less m n xs le o.1)

pub all_order : (n : ℕ) (a : ℕ × ℕ) (xs : List (ℕ × ℕ)) → n ≤ a.0 → AllLe n xs → AllLe n (in_order a xs)
all_order n a [] le o = (le, tt)
all_order n a (x ∷ xs) le o = go (nat_le a.0 x.0) (all_order n a xs le o.1)
  where
    go : (b : Bool) → AllLe n (in_order a xs) → AllLe n (if b then a ∷ x ∷ xs else x ∷ in_order a xs)
    go true k = (le, o)
    go false k = (o.0, k)

pub sorted_order : (a : ℕ × ℕ) (xs : List (ℕ × ℕ)) → IsSorted xs → IsSorted (in_order a xs)
sorted_order a [] s = (tt, tt)
sorted_order a (x ∷ xs) s = go (nat_le a.0 x.0) refl (sorted_order a xs s.1)
  where
    le : nat_le a.0 x.0 ≡ true → a.0 ≤ x.0
    le q = grind (arith, nat_tests, q)

    ge : nat_le a.0 x.0 ≡ false → x.0 ≤ a.0
    ge q = grind (arith, nat_tests, q)

    go : (b : Bool) → nat_le a.0 x.0 ≡ b → IsSorted (in_order a xs) → IsSorted (if b then a ∷ x ∷ xs else x ∷ in_order a xs)
    go true q k = ((le q, all_less a.0 x.0 xs (le q) s.0), s)
    go false q k = (all_order x.0 a xs (ge q) s.0, k)

pub sorted : (xs : List (ℕ × ℕ)) → IsSorted (by_deadline xs)
sorted [] = tt
sorted (x ∷ xs) = sorted_order x (by_deadline xs) (sorted xs)

pub all_filter : (n : ℕ) (p : ℕ × ℕ → Bool) (xs : List (ℕ × ℕ)) → AllLe n xs → AllLe n (filter p xs)
all_filter n p [] o = tt
all_filter n p (x ∷ xs) o = go (p x) (all_filter n p xs o.1)
  where
    go : (b : Bool) → AllLe n (filter p xs) → AllLe n (if b then x ∷ filter p xs else filter p xs)
    go true k = (o.0, k)
    go false k = k

pub in_front : (a : ℕ × ℕ) (xs : List (ℕ × ℕ)) → AllLe a.0 xs → in_order a xs ≡ a ∷ xs
in_front a [] o = refl
in_front a (x ∷ xs) o = rw (le (o.0)) refl
  where
    le : a.0 ≤ x.0 → nat_le a.0 x.0 ≡ true
    le k = grind (arith, nat_tests, k)

-- what is left out of a list by deadlines
pub filter_order : (p : ℕ × ℕ → Bool) (a : ℕ × ℕ) (xs : List (ℕ × ℕ)) → IsSorted xs
    → filter p (in_order a xs) ≡ (if p a then in_order a (filter p xs) else filter p xs)
filter_order p a [] s = go (p a)
  where
    go : (b : Bool) → (if b then a ∷ [] else []) ≡ (if b then a ∷ [] else [])
    go b = refl
filter_order p a (x ∷ xs) s = go (nat_le a.0 x.0) refl (filter_order p a xs s.1)
  where
    le : nat_le a.0 x.0 ≡ true → a.0 ≤ x.0
    le q = grind (arith, nat_tests, q)

    front : nat_le a.0 x.0 ≡ true → (b c : Bool) → p x ≡ c
        → (if b then a ∷ (if c then x ∷ filter p xs else filter p xs) else (if c then x ∷ filter p xs else filter p xs)) ≡ (if b then in_order a (if c then x ∷ filter p xs else filter p xs) else (if c then x ∷ filter p xs else filter p xs))
    front q true true r = sym (in_front a (x ∷ filter p xs) (le q, all_filter a.0 p xs (all_less a.0 x.0 xs (le q) s.0)))
    front q true false r = sym (in_front a (filter p xs) (all_filter a.0 p xs (all_less a.0 x.0 xs (le q) s.0)))
    front q false c r = refl

    back : nat_le a.0 x.0 ≡ false → (b c : Bool) → filter p (in_order a xs) ≡ (if b then in_order a (filter p xs) else filter p xs)
        → (if c then x ∷ filter p (in_order a xs) else filter p (in_order a xs)) ≡ (if b then in_order a (if c then x ∷ filter p xs else filter p xs) else (if c then x ∷ filter p xs else filter p xs))
    back q true true ih = rw (q, ih) refl
    back q true false ih = ih
    back q false true ih = ap (λ (ys : List (ℕ × ℕ)). x ∷ ys) ih
    back q false false ih = ih

    go : (t : Bool) → nat_le a.0 x.0 ≡ t
        → filter p (in_order a xs) ≡ (if p a then in_order a (filter p xs) else filter p xs)
        → filter p (if t then a ∷ x ∷ xs else x ∷ in_order a xs) ≡ (if p a then in_order a (filter p (x ∷ xs)) else filter p (x ∷ xs))
    go true q ih = front q (p a) (p x) refl
    go false q ih = back q (p a) (p x) ih

pub filter_deadline : (p : ℕ × ℕ → Bool) (xs : List (ℕ × ℕ)) → by_deadline (filter p xs) ≡ filter p (by_deadline xs)
filter_deadline p [] = refl
filter_deadline p (x ∷ xs) = go (p x) refl (filter_deadline p xs)
  where
    go : (b : Bool) → p x ≡ b → by_deadline (filter p xs) ≡ filter p (by_deadline xs)
        → by_deadline (if b then x ∷ filter p xs else filter p xs) ≡ filter p (in_order x (by_deadline xs))
    go true q ih =
        ap (in_order x) ih
        ∙ sym (filter_order p x (by_deadline xs) (sorted xs) ∙ ap (λ (b : Bool). if b then in_order x (filter p (by_deadline xs)) else filter p (by_deadline xs)) q)
    go false q ih =
        ih
        ∙ sym (filter_order p x (by_deadline xs) (sorted xs) ∙ ap (λ (b : Bool). if b then in_order x (filter p (by_deadline xs)) else filter p (by_deadline xs)) q)

-- what is counted, and what holds of each, is that of the list as it was
count_order : (q : ℕ × ℕ → Bool) (a : ℕ × ℕ) (xs : List (ℕ × ℕ)) → count_by q (in_order a xs) ≡ cond (q a) 1 0 + count_by q xs
count_order q a [] = count_cons q a []
count_order q a (x ∷ xs) = go (nat_le a.0 x.0) (count_order q a xs)
  where
    swap : (k l m n : ℕ) → n ≡ l + m → k + n ≡ l + (k + m)
    swap k l m n e = omega (arith, e)

    go : (b : Bool) → count_by q (in_order a xs) ≡ cond (q a) 1 0 + count_by q xs
        → count_by q (if b then a ∷ x ∷ xs else x ∷ in_order a xs) ≡ cond (q a) 1 0 + count_by q (x ∷ xs)
    go true ih = count_cons q a (x ∷ xs)
    go false ih =
        rw (count_cons q x (in_order a xs), count_cons q x xs) (swap (cond (q x) 1 0) (cond (q a) 1 0) (count_by q xs) (count_by q (in_order a xs)) ih)

pub count_deadline : (q : ℕ × ℕ → Bool) (xs : List (ℕ × ℕ)) → count_by q (by_deadline xs) ≡ count_by q xs
count_deadline q [] = refl
count_deadline q (x ∷ xs) = count_order q x (by_deadline xs) ∙ ap (λ (n : ℕ). cond (q x) 1 0 + n) (count_deadline q xs) ∙ sym (count_cons q x xs)

in_order_length : (a : ℕ × ℕ) (xs : List (ℕ × ℕ)) → length (in_order a xs) ≡ suc (length xs)
in_order_length a [] = refl
in_order_length a (x ∷ xs) = go (nat_le a.0 x.0) (in_order_length a xs)
  where
    go : (b : Bool) → length (in_order a xs) ≡ suc (length xs) → length (if b then a ∷ x ∷ xs else x ∷ in_order a xs) ≡ suc (suc (length xs))
    go true k = refl
    go false k = ap suc k

pub by_deadline_length : (xs : List (ℕ × ℕ)) → length (by_deadline xs) ≡ length xs
by_deadline_length [] = refl
by_deadline_length (x ∷ xs) = in_order_length x (by_deadline xs) ∙ ap suc (by_deadline_length xs)

pub list_all_order : (q : ℕ × ℕ → Bool) (a : ℕ × ℕ) (xs : List (ℕ × ℕ)) → list_all q (in_order a xs) ≡ (q a && list_all q xs)
list_all_order q a [] = refl
list_all_order q a (x ∷ xs) = go (nat_le a.0 x.0) (list_all_order q a xs)
  where
    swap : (k l m : Bool) → (k && (l && m)) ≡ (l && (k && m))
    swap true l m = refl
    swap false true m = refl
    swap false false m = refl

    go : (b : Bool) → list_all q (in_order a xs) ≡ (q a && list_all q xs)
        → list_all q (if b then a ∷ x ∷ xs else x ∷ in_order a xs) ≡ (q a && (q x && list_all q xs))
    go true ih = refl
    go false ih = ap (λ (b : Bool). q x && b) ih ∙ swap (q x) (q a) (list_all q xs)

pub list_all_deadline : (q : ℕ × ℕ → Bool) (xs : List (ℕ × ℕ)) → list_all q (by_deadline xs) ≡ list_all q xs
list_all_deadline q [] = refl
list_all_deadline q (x ∷ xs) = list_all_order q x (by_deadline xs) ∙ ap (λ (b : Bool). q x && b) (list_all_deadline q xs)
