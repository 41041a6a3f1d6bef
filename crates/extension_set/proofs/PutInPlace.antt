-- A pair is put in its place in an array: the loop lays down the lesser of the pair that it carries and the one that
-- stands there, and carries the greater on.
use Rattle.std.proofs.Common.{◌≡◌, ℕ, suc, ◌<◌, ◌≤◌, length, List, [], ◌∷◌, ◌++◌, take, drop, set, get_or, ltb, true}
use Rattle.std.proofs.Common.{false, arith, refl, sym, ◌∙◌, ap, append_assoc}
use Rattle.std.proofs.lemmas.Bool.Decides.{nat_tests}
use Rattle.std.proofs.Math.Seq.{take-suc, take-suc-set}
use Rattle.std.proofs.lemmas.List.{drop-set-lt, drop_all, length-set, length-take}
use Rattle.call_types.specs.declared.answer.Answer.{Answer}
use Rattle.environment_step.specs.After.{put}
use Rattle.extension_set.proofs.Lists.{drop_take_one, same_rest}

-- what is laid down so far, with the carried pair put among the rest, is the pair put among all
pub record IsCarrying (place count first_count : ℕ) (pair carried : ℕ × Answer) (old now : List (ℕ × Answer)) : Type 0 where
  pub same_count : count ≡ first_count
  pub fits : first_count ≤ length old
  pub same_length : length now ≡ length old
  pub rest : drop place now ≡ drop place old
  pub so_far : take place now ++ put carried (drop place (take count old)) ≡ put pair (take count old)

-- the pair that stands there is no greater
pub carry_past : (place count first_count : ℕ) (pair carried d : ℕ × Answer) (old now : List (ℕ × Answer))
    → IsCarrying place count first_count pair carried old now → place < count → place < length old
    → (get_or now place d).0 ≤ carried.0 → IsCarrying (suc place) count first_count pair carried old now
carry_past i n m pair carried d old now b lt len le = record {
  same_count = b.same_count;
  fits = b.fits;
  same_length = b.same_length;
  rest = both.1;
  so_far =
      rw (take-suc now i d at)
      (append_assoc (take i now) (get_or now i d ∷ []) (put carried (drop (suc i) (take n old))) ∙ ap (λ ys. take i now ++ ys) one ∙ b.so_far);
}
  where
    at : i < length now
    at = omega (arith, len, b.same_length)

    both : (get_or now i d ≡ get_or old i d) × (drop (suc i) now ≡ drop (suc i) old)
    both = same_rest now old i d at b.same_length b.rest

    no : ltb carried.0 (get_or now i d).0 ≡ false
    no = grind (arith, nat_tests, le)

    one : get_or now i d ∷ put carried (drop (suc i) (take n old)) ≡ put carried (drop i (take n old))
    one = rw (drop_take_one old i n d lt len, sym both.0, no) refl

-- the pair that stands there is greater
pub carry_on : (place count first_count : ℕ) (pair carried d : ℕ × Answer) (old now : List (ℕ × Answer))
    → IsCarrying place count first_count pair carried old now → place < count → place < length old
    → carried.0 < (get_or now place d).0 → IsCarrying (suc place) count first_count pair (get_or now place d) old (set now place carried)
carry_on i n m pair carried d old now b lt len le = record {
  same_count = b.same_count;
  fits = b.fits;
  same_length = length-set now i carried ∙ b.same_length;
  rest = drop-set-lt (suc i) now i carried (omega arith) ∙ both.1;
  so_far =
      rw (take-suc-set now i carried at)
      (append_assoc (take i now) (carried ∷ []) (put (get_or now i d) (drop (suc i) (take n old))) ∙ ap (λ ys. take i now ++ ys) one ∙ b.so_far);
}
  where
    at : i < length now
    at = omega (arith, len, b.same_length)

    both : (get_or now i d ≡ get_or old i d) × (drop (suc i) now ≡ drop (suc i) old)
    both = same_rest now old i d at b.same_length b.rest

    yes : ltb carried.0 (get_or now i d).0 ≡ true
    yes = grind (arith, nat_tests, le)

    one : carried ∷ put (get_or now i d) (drop (suc i) (take n old)) ≡ put carried (drop i (take n old))
    one = rw (drop_take_one old i n d lt len, sym both.0, yes) refl

-- no pair is left, and the carried one is laid down behind all
pub carry_end : (place count first_count : ℕ) (pair carried : ℕ × Answer) (old now : List (ℕ × Answer))
    → IsCarrying place count first_count pair carried old now → place ≡ count → count < length old
    → take (suc count) (set now count carried) ≡ put pair (take count old)
carry_end i n m pair carried old now b end len =
    take-suc-set now n carried (omega (arith, len, b.same_length))
    ∙ ap (λ xs. take n now ++ put carried xs) (sym none)
    ∙ rw end at b.so_far
  where
    none : drop n (take n old) ≡ []
    none = drop_all n (take n old) (omega (arith, length-take n old))
