-- A loop changes each extension by s and puts what f gives it into the moves.
use Rattle.std.proofs.Common.{◌≡◌, ℕ, suc, ◌+◌, ◌<◌, ◌≤◌, length, List, [], ◌∷◌, ◌++◌, take, drop, set, get_or, map, reverse, Option, arith, refl, sym, ◌∙◌, ap}
use Rattle.std.proofs.Math.Seq.{take-suc, take-suc-set}
use Rattle.std.proofs.lemmas.List.{drop-set-lt, length-set, map-append, reverse-append, take_all}
use Rattle.call_types.specs.declared.answer.Answer.{Answer}
use Rattle.call_model.specs.Generation.{Member}
use Rattle.environment_step.specs.After.{give, give_each}
use Rattle.extension_set.proofs.Lists.{same_rest}
use Rattle.extension_set.proofs.Lengths.{give_length}

-- what the loop has done to the extensions before place i, and given to them
pub record IsEach (s : Member → Member) (f : Member → Option Answer) (i : ℕ) (old now : List Member) (first moves : List (ℕ × Answer)) : Type 0 where
  pub same_length : length now ≡ length old
  pub rest : drop i now ≡ drop i old
  pub done : take i now ≡ map s (take i old)
  pub given : moves ≡ give_each f (reverse (take i old)) first
  pub few : length moves ≤ length first + i

-- one extension more
pub each_more : (s : Member → Member) (f : Member → Option Answer) (i : ℕ) (d x : Member) (old now : List Member) (first moves moves' : List (ℕ × Answer))
    → IsEach s f i old now first moves → i < length old → x ≡ get_or now i d
    → moves' ≡ give x.next (f x) moves → IsEach s f (suc i) old (set now i (s x)) first moves'
each_more s f i d x old now first moves moves' k len same more = record {
  same_length = length-set now i (s x) ∙ k.same_length;
  rest = drop-set-lt (suc i) now i (s x) (omega arith) ∙ both.1;
  done = take-suc-set now i (s x) at ∙ ap (λ xs. xs ++ s x ∷ []) k.done ∙ sym (ap (map s) longer ∙ map-append s (take i old) (x ∷ []));
  given = more ∙ ap (give x.next (f x)) k.given ∙ sym (ap (λ xs. give_each f xs first) (ap reverse longer ∙ reverse-append (take i old) (x ∷ [])));
  few = omega (arith, k.few, give_length x.next (f x) moves, ap length more);
}
  where
    at : i < length now
    at = omega (arith, len, k.same_length)

    both : (get_or now i d ≡ get_or old i d) × (drop (suc i) now ≡ drop (suc i) old)
    both = same_rest now old i d at k.same_length k.rest

    longer : take (suc i) old ≡ take i old ++ x ∷ []
    longer = take-suc old i d len ∙ ap (λ y. take i old ++ y ∷ []) (sym both.0 ∙ sym same)

reverse-map : (s : Member → Member) (xs : List Member) → reverse (map s xs) ≡ map s (reverse xs)
reverse-map s [] = refl
reverse-map s (x ∷ xs) =
    reverse-append (s x ∷ []) (map s xs) ∙ ap (λ ys. ys ++ s x ∷ []) (reverse-map s xs)
    ∙ sym (ap (map s) (reverse-append (x ∷ []) xs) ∙ map-append s (reverse xs) (x ∷ []))

-- at the end of the loop
pub each_whole : (s : Member → Member) (f : Member → Option Answer) (n : ℕ) (old now : List Member) (first moves : List (ℕ × Answer))
    → IsEach s f n old now first moves → n ≡ length old
    → (reverse now ≡ map s (reverse old)) × (moves ≡ give_each f (reverse old) first)
each_whole s f n old now first moves k e =
    (ap reverse (sym (whole now (k.same_length ∙ sym e)) ∙ k.done ∙ ap (map s) (whole old (sym e))) ∙ reverse-map s old, k.given ∙ ap (λ xs. give_each f (reverse xs) first) (whole old (sym e)))
  where
    whole : (xs : List Member) → length xs ≡ n → take n xs ≡ xs
    whole xs p = take_all n xs (omega (arith, p))
