-- The events of an array of pairs are numbered in place.
use Rattle.std.proofs.Common.{◌≡◌, ℕ, suc, ◌+◌, ◌<◌, ◌≤◌, length, List, ◌∷◌, ◌++◌, take, drop, set, get_or}
use Rattle.std.proofs.Common.{append_assoc, [], Bool, true, false, arith, refl, sym, ◌∙◌, ap, if◌then◌else◌}
use Rattle.std.proofs.Math.Seq.{take-suc-set}
use Rattle.std.proofs.lemmas.List.{drop-set-lt, length-set}
use Rattle.call_model.specs.Answers.{with_event}
use Rattle.call_model.specs.Life.{is_event}
use Rattle.call_types.specs.declared.answer.Answer.{Answer}
use Rattle.environment_step.specs.After.{numbered_from, events_of}
use Rattle.extension_set.proofs.Lists.{drop_take_one, same_rest}

-- what is numbered so far, with the numbers of the rest from the last one on, is the numbering of all
pub record IsNumbered (place count first_count events last : ℕ) (old now : List (ℕ × Answer)) : Type 0 where
  pub same_count : count ≡ first_count
  pub fits : first_count ≤ length old
  pub small : first_count ≤ 32
  pub same_length : length now ≡ length old
  pub rest : drop place now ≡ drop place old
  pub few : last ≤ events + place
  pub counted : events_of (drop place (take count old)) + last ≡ events_of (take count old) + events
  pub so_far : take place now ++ numbered_from last (drop place (take count old)) ≡ numbered_from events (take count old)

-- one pair more
pub number_more : (place count first_count events last : ℕ) (d : ℕ × Answer) (old now : List (ℕ × Answer))
    → IsNumbered place count first_count events last old now → place < count → place < length old
    → (b : Bool) → is_event (get_or now place d).1 ≡ b
    → IsNumbered (suc place) count first_count events (last + (if b then 1 else 0)) old (set now place ((get_or now place d).0, with_event (suc last) (get_or now place d).1))
number_more i n m events last d old now k lt len b q = record {
  same_count = k.same_count;
  fits = k.fits;
  small = k.small;
  same_length = length-set now i x' ∙ k.same_length;
  rest = drop-set-lt (suc i) now i x' (omega arith) ∙ both.1;
  few = at_most b;
  counted = count b q;
  so_far =
      rw (take-suc-set now i x' at)
      (append_assoc (take i now) (x' ∷ []) (numbered_from (last + (if b then 1 else 0)) r) ∙ ap (λ ys. take i now ++ ys) (one b q) ∙ k.so_far);
}
  where
    x : ℕ × Answer
    x = get_or now i d

    x' : ℕ × Answer
    x' = (x.0, with_event (suc last) x.1)

    r : List (ℕ × Answer)
    r = drop (suc i) (take n old)

    at : i < length now
    at = omega (arith, len, k.same_length)

    both : (get_or now i d ≡ get_or old i d) × (drop (suc i) now ≡ drop (suc i) old)
    both = same_rest now old i d at k.same_length k.rest

    split : drop i (take n old) ≡ x ∷ r
    split = drop_take_one old i n d lt len ∙ ap (λ y. y ∷ r) (sym both.0)

    at_most : (b : Bool) → last + (if b then 1 else 0) ≤ events + suc i
    at_most true = omega (arith, k.few)
    at_most false = omega (arith, k.few)

    one : (b : Bool) → is_event x.1 ≡ b → x' ∷ numbered_from (last + (if b then 1 else 0)) r ≡ numbered_from last (drop i (take n old))
    one true p = let e : last + 1 ≡ suc last = omega arith in rw (split, p, e) refl
    one false p = let e : last + 0 ≡ last = omega arith in rw (split, p, e) refl

    count : (b : Bool) → is_event x.1 ≡ b → events_of r + (last + (if b then 1 else 0)) ≡ events_of (take n old) + events
    count b p = shift b (ap events_of split ∙ ap (λ (c : Bool). (if c then 1 else 0) + events_of r) p)
      where
        shift : (b : Bool) → events_of (drop i (take n old)) ≡ (if b then 1 else 0) + events_of r
            → events_of r + (last + (if b then 1 else 0)) ≡ events_of (take n old) + events
        shift true e = omega (arith, e, k.counted)
        shift false e = omega (arith, e, k.counted)
