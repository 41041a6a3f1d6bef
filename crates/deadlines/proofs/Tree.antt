-- The root of a tree of deadlines has the first of them all.
use Rattle.std.proofs.Common.{◌≡◌, ◌≢◌, ◌⊎◌, ℕ, zero, suc, ◌+◌, ◌-◌, ◌*◌, ◌/◌, ◌<◌, ◌≤◌, true, false, List, [], ◌∷◌}
use Rattle.std.proofs.Common.{length, get_or, set, Option, Some, None, refl, ap, sym, ◌∙◌, arith, inl, inr, nat_lt}
use Rattle.std.proofs.lemmas.Bool.{cases_eq}
use Rattle.std.proofs.lemmas.Bool.Decides.{nat_tests}
use Rattle.std.proofs.lemmas.Nat.{div-add-mod', mod_below}
use Rattle.std.proofs.lemmas.List.{get_or-set_same, get_or-set_other}
use Rattle.call_model.specs.Next.{with_number}
use Rattle.deadlines.specs.Tree.{sooner, first_of, first_below, IsNode, IsMended, IsMendedBut}

-- ---- of two, and of more

sooner_none : (a : Option (ℕ × ℕ)) → sooner a None ≡ a
sooner_none None = refl
sooner_none (Some a) = refl

sooner_turned : (a b : Option (ℕ × ℕ)) → sooner a b ≡ sooner b a
sooner_turned None b = sym (sooner_none b)
sooner_turned (Some a) None = refl
sooner_turned (Some a) (Some b) = grind (arith, nat_tests)

sooner_grouped : (a b c : Option (ℕ × ℕ)) → sooner (sooner a b) c ≡ sooner a (sooner b c)
sooner_grouped None b c = refl
sooner_grouped (Some a) None c = refl
sooner_grouped (Some a) (Some b) None = sooner_none (sooner (Some a) (Some b))
sooner_grouped (Some a) (Some b) (Some c) = grind (arith, nat_tests)

-- the first of n nodes from a on
abbrev among : (ℕ → Option (ℕ × ℕ)) → ℕ → ℕ → Option (ℕ × ℕ)
among f a zero = None
among f a (suc n) = sooner (f a) (among f (suc a) n)

among_more : (f : ℕ → Option (ℕ × ℕ)) (a n : ℕ) → among f a (suc n) ≡ sooner (among f a n) (f (a + n))
among_more f a zero =
    let at : a + 0 ≡ a = omega arith in
    rw at (sooner_none (f a))
among_more f a (suc n) =
    let at : a + suc n ≡ suc a + n = omega arith in
    rw at (ap (sooner (f a)) (among_more f (suc a) n) ∙ sym (sooner_grouped (f a) (among f (suc a) n) (f (suc a + n))))

-- ---- the root

-- In place of a node, the two below it: so the nodes from k up to 2 k have the first of all, for each k.
widened : (f : ℕ → Option (ℕ × ℕ)) (k : ℕ) → f (suc k) ≡ sooner (f (2 * suc k)) (f (2 * suc k + 1))
    → among f (suc k) (suc k) ≡ among f (suc (suc k)) (suc (suc k))
widened f k e =
    let left : suc (suc k) + k ≡ 2 * suc k = omega arith in
    let right : suc (suc k) + suc k ≡ 2 * suc k + 1 = omega arith in
    let others = among f (suc (suc k)) k in
    sooner_turned (f (suc k)) others ∙ ap (sooner others) e ∙ sym (sooner_grouped others (f (2 * suc k)) (f (2 * suc k + 1)))
    ∙ sym (among_more f (suc (suc k)) (suc k) ∙ rw (among_more f (suc (suc k)) k, left, right) refl)

root_among : (f : ℕ → Option (ℕ × ℕ)) (n : ℕ) → ((i : ℕ) → 1 ≤ i → i < n → f i ≡ sooner (f (2 * i)) (f (2 * i + 1)))
    → (k : ℕ) → suc k ≤ n → f 1 ≡ among f (suc k) (suc k)
root_among f n each zero le = sym (sooner_none (f 1))
root_among f n each (suc k) le = root_among f n each k (omega arith) ∙ widened f k (each (suc k) (omega arith) (omega arith))

-- the environments' own nodes
leaves : (f : ℕ → Option (ℕ × ℕ)) (deadlines : List (Option ℕ)) (a e : ℕ)
    → ((i : ℕ) → i < length deadlines → f (a + i) ≡ with_number (e + i) (get_or deadlines i None))
    → among f a (length deadlines) ≡ first_of e deadlines
leaves f [] a e each = refl
leaves f (deadline ∷ deadlines) a e each =
    ap (λ x. sooner x (among f (suc a) (length deadlines))) own ∙ ap (sooner (with_number e deadline)) (leaves f deadlines (suc a) (suc e) behind)
  where
    own : f a ≡ with_number e deadline
    own =
        let node : a ≡ a + 0 = omega arith in
        let number : e + 0 ≡ e = omega arith in
        ap f node ∙ each 0 (omega arith) ∙ rw number refl

    behind : (i : ℕ) → i < length deadlines → f (suc a + i) ≡ with_number (suc e + i) (get_or deadlines i None)
    behind i inner =
        let node : suc a + i ≡ a + suc i = omega arith in
        let number : suc e + i ≡ e + suc i = omega arith in
        rw (node, number) (each (suc i) (omega arith))

inner_node : (deadlines : List (Option ℕ)) (firsts : List (Option (ℕ × ℕ))) (i : ℕ) → i < length deadlines
    → first_below deadlines firsts i ≡ get_or firsts i None
inner_node deadlines firsts i lt =
    let inner : nat_lt i (length deadlines) ≡ true = grind (arith, nat_tests) in
    rw inner refl

leaf : (deadlines : List (Option ℕ)) (firsts : List (Option (ℕ × ℕ))) (i : ℕ)
    → first_below deadlines firsts (length deadlines + i) ≡ with_number (1 + i) (get_or deadlines i None)
leaf deadlines firsts i =
    let behind : nat_lt (length deadlines + i) (length deadlines) ≡ false = grind (arith, nat_tests) in
    let index : length deadlines + i - length deadlines ≡ i = omega arith in
    let number : i + 1 ≡ 1 + i = omega arith in
    rw (behind, index, number) refl

pub root_is : (deadlines : List (Option ℕ)) (firsts : List (Option (ℕ × ℕ))) → IsMended deadlines firsts → first_below deadlines firsts 1 ≡ first_of 1 deadlines
root_is [] firsts mended = refl
root_is (deadline ∷ deadlines) firsts mended =
    let all = deadline ∷ deadlines in
    root_among (first_below all firsts) (length all)
    (λ i from_one inner. inner_node all firsts i inner ∙ mended i from_one inner) (length deadlines) (omega arith)
    ∙ leaves (first_below all firsts) all (length all) 1 (λ i inner. leaf all firsts i)

-- ---- mending

other_node : (deadlines : List (Option ℕ)) (firsts : List (Option (ℕ × ℕ))) (i : ℕ) (x : Option (ℕ × ℕ)) (j : ℕ) → j ≢ i
    → first_below deadlines (set firsts i x) j ≡ first_below deadlines firsts j
other_node deadlines firsts i x j differs = rw (get_or-set_other firsts i j x None differs) refl

not_below : (i h : ℕ) → i ≢ h / 2 → (2 * i ≢ h) × (2 * i + 1 ≢ h)
not_below i h differs = (omega (arith, div-add-mod' h 2, mod_below h 2 (omega arith)), omega (arith, div-add-mod' h 2, mod_below h 2 (omega arith)))

-- A node is mended: then the one above it is the one that may not be.
pub mends : (deadlines : List (Option ℕ)) (firsts : List (Option (ℕ × ℕ))) (h : ℕ) → 1 ≤ h → h < length firsts
    → ((i : ℕ) → 1 ≤ i → i < length deadlines → i ≢ h → IsNode deadlines firsts i)
    → IsMendedBut deadlines (set firsts h (sooner (first_below deadlines firsts (2 * h)) (first_below deadlines firsts (2 * h + 1)))) h
mends deadlines firsts h positive there others i from_one inner differs = go (cases_eq i h)
  where
    x : Option (ℕ × ℕ)
    x = sooner (first_below deadlines firsts (2 * h)) (first_below deadlines firsts (2 * h + 1))

    go : (i ≡ h) ⊎ (i ≢ h) → IsNode deadlines (set firsts h x) i
    go (inl same) =
        rw same
        (get_or-set_same firsts h x None there ∙ rw (other_node deadlines firsts h x (2 * h) (omega arith), other_node deadlines firsts h x (2 * h + 1) (omega arith)) refl)
    go (inr other) =
        get_or-set_other firsts h i x None other ∙ others i from_one inner other
        ∙ rw (other_node deadlines firsts h x (2 * i) (not_below i h differs).0, other_node deadlines firsts h x (2 * i + 1) (not_below i h differs).1) refl
