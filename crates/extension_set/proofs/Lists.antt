-- Lists that a loop goes through: what it reads is what stood there, while the rest is as it was.
use Rattle.std.proofs.Common.{◌≡◌, ℕ, zero, suc, ◌<◌, length, List, [], ◌∷◌, take, drop, get_or, arith, refl, sym, ◌∙◌}
use Rattle.std.proofs.Math.Seq.{drop-cons}

pub drop_take_one : {A : Type 0} (xs : List A) (i n : ℕ) (d : A) → i < n → i < length xs → drop i (take n xs) ≡ get_or xs i d ∷ drop (suc i) (take n xs)
drop_take_one [] i n d a b = absurd (omega (arith, b))
drop_take_one (x ∷ xs) i zero d a b = absurd (omega (arith, a))
drop_take_one (x ∷ xs) zero (suc n) d a b = refl
drop_take_one (x ∷ xs) (suc i) (suc n) d a b = drop_take_one xs i n d (omega (arith, a)) (omega (arith, b))

pub same_rest : {A : Type 0} (xs ys : List A) (i : ℕ) (d : A) → i < length xs → length xs ≡ length ys
    → drop i xs ≡ drop i ys → (get_or xs i d ≡ get_or ys i d) × (drop (suc i) xs ≡ drop (suc i) ys)
same_rest xs ys i d a l e = both (sym (drop-cons xs i d a) ∙ e ∙ drop-cons ys i d (omega (arith, a, l)))
  where
    both : (get_or xs i d ∷ drop (suc i) xs) ≡ (get_or ys i d ∷ drop (suc i) ys) → (get_or xs i d ≡ get_or ys i d) × (drop (suc i) xs ≡ drop (suc i) ys)
    both q = (cc, cc)
