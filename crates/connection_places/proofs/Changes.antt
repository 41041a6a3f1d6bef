-- What becomes of places one after the other.
use Rattle.std.proofs.Common.{◌≡◌, inl, inr, ◌<◌, ◌≤◌, ◌+◌, add-one, ℕ, zero, suc, Bool, true, false, List, [], ◌∷◌, length, map, refl, sym, ap, subst, ◌∙◌, get_or, set, arith}
use Rattle.std.proofs.lemmas.List.{map-set, get_or-map, length-map}
use Rattle.connection_places.specs.Places.{Either, EachEither, Places, SomeBecome, Standing, closed, standing, unstaffed}
use Rattle.connection_places.specs.declared.slots.Slot.{Slot}

-- at first each is as before
pub each_before : (change : Standing → Standing) (places : List Standing) → EachEither change places places
each_before change [] = tt
each_before change (place ∷ places) = (inl refl, each_before change places)

-- a change that comes twice is one
then_either : (change : Standing → Standing) → ((p : Standing) → change (change p) ≡ change p) → (a b c : Standing)
    → Either change a b → Either change b c → Either change a c
then_either change once a b c (inl before) (inl is) = inl (is ∙ before)
then_either change once a b c (inl before) (inr is) = inr (is ∙ ap change before)
then_either change once a b c (inr changed) (inl is) = inr (is ∙ changed)
then_either change once a b c (inr changed) (inr is) = inr (is ∙ ap change changed ∙ once a)

-- one more
pub each_set : (change : Standing → Standing) → ((p : Standing) → change (change p) ≡ change p)
    → (before now : List Standing) (at : ℕ) (place : Standing) → ((d : Standing) → Either change (get_or now at d) place)
    → EachEither change before now → EachEither change before (set now at place)
each_set change once [] [] at place is each = tt
each_set change once [] (q ∷ qs) at place is each = absurd each
each_set change once (p ∷ ps) [] at place is each = absurd each
each_set change once (p ∷ ps) (q ∷ qs) zero place is each = (then_either change once p q place each.0 (is q), each.1)
each_set change once (p ∷ ps) (q ∷ qs) (suc at) place is each = (each.0, each_set change once ps qs at place is each.1)

-- the same with what a place becomes
pub each_becomes : (change : Standing → Standing) → ((p : Standing) → change (change p) ≡ change p)
    → (before now : List Standing) (at : ℕ) (d : Standing) → EachEither change before now → EachEither change before (set now at (change (get_or now at d)))
each_becomes change once [] [] at d each = tt
each_becomes change once [] (q ∷ qs) at d each = absurd each
each_becomes change once (p ∷ ps) [] at d each = absurd each
each_becomes change once (p ∷ ps) (q ∷ qs) zero d each = (then_either change once p q (change q) each.0 (inr refl), each.1)
each_becomes change once (p ∷ ps) (q ∷ qs) (suc at) d each = (each.0, each_becomes change once ps qs at d each.1)

pub once_closed : (p : Standing) → closed (closed p) ≡ closed p
once_closed p = go p.is_taken p.is_open
  where
    go : (taken running : Bool) → closed (closed (record { is_taken = taken; is_open = running; is_staffed = p.is_staffed })) ≡ closed (record { is_taken = taken; is_open = running; is_staffed = p.is_staffed })
    go false running = refl
    go true false = refl
    go true true = refl

pub once_unstaffed : (p : Standing) → unstaffed (unstaffed p) ≡ unstaffed p
once_unstaffed p = refl

-- the first ones are changed, and the others are as before
abbrev pub Upto : (Standing → Standing) → ℕ → List Standing → List Standing → Type 0
Upto change zero before now = now ≡ before
Upto change (suc n) [] now = now ≡ []
Upto change (suc n) (p ∷ ps) [] = ⊥
Upto change (suc n) (p ∷ ps) (q ∷ qs) = (q ≡ change p) × Upto change n ps qs

-- one more
pub upto_more : (change : Standing → Standing) (n : ℕ) (before now : List Standing) (place : Standing) → n < length before
    → ((d : Standing) → place ≡ change (get_or now n d)) → Upto change n before now → Upto change (suc n) before (set now n place)
upto_more change zero [] now place below is upto = absurd (omega (arith, below))
upto_more change zero (p ∷ ps) now place below is upto =
    subst (λ (l : List Standing). Upto change 1 (p ∷ ps) (set l 0 place)) (sym upto) (is p ∙ ap change (ap (λ (l : List Standing). get_or l 0 p) upto), refl)
upto_more change (suc n) [] now place below is upto = absurd (omega (arith, below))
upto_more change (suc n) (p ∷ ps) [] place below is upto = absurd upto
upto_more change (suc n) (p ∷ ps) (q ∷ qs) place below is upto = (upto.0, upto_more change n ps qs place (omega (arith, below)) is upto.1)

-- in the end all are
pub upto_all : (change : Standing → Standing) (n : ℕ) (before now : List Standing) → length before ≤ n → Upto change n before now → now ≡ map change before
upto_all change zero [] now all upto = upto
upto_all change zero (p ∷ ps) now all upto = absurd (omega (arith, all))
upto_all change (suc n) [] now all upto = upto
upto_all change (suc n) (p ∷ ps) [] all upto = absurd upto
upto_all change (suc n) (p ∷ ps) (q ∷ qs) all upto = ap (λ (x : Standing). x ∷ qs) upto.0 ∙ ap (λ (l : List Standing). change p ∷ l) (upto_all change n ps qs (omega (arith, all)) upto.1)

-- the same of what contracts see
pub upto_seen : {Y V : Type 0} (change : Standing → Standing) (n : ℕ) (before now : List (Slot Y V)) (slot was : Slot Y V)
    → n < length before → n < length now → standing slot ≡ change (standing (get_or now n was))
    → Upto change n (map standing before) (map standing now) → Upto change (n + 1) (map standing before) (map standing (set now n slot))
upto_seen change n before now slot was below within is upto =
    rw (add-one n, map-set standing now n slot)
    (upto_more change n (map standing before) (map standing now) (standing slot) (subst (λ k. n < k) (sym (length-map before standing)) below)
    (λ d. is ∙ ap change (sym (get_or-map standing now n was d within))) upto)

pub each_seen : {Y V : Type 0} (change : Standing → Standing) → ((p : Standing) → change (change p) ≡ change p)
    → (n : ℕ) (before now : List (Slot Y V)) (slot was : Slot Y V) → n < length now → Either change (standing (get_or now n was)) (standing slot)
    → EachEither change (map standing before) (map standing now) → EachEither change (map standing before) (map standing (set now n slot))
each_seen change once n before now slot was within is each =
    rw (map-set standing now n slot)
    (each_set change once (map standing before) (map standing now) n (standing slot)
    (λ d. subst (λ p. Either change p (standing slot)) (sym (get_or-map standing now n was d within)) is) each)

pub some_seen : {Y V : Type 0} (change : Standing → Standing) (most : ℕ) (before now : List (Slot Y V)) (seen : Places)
    → record { most = most; places = map standing before } ≡ seen → EachEither change (map standing before) (map standing now)
    → SomeBecome change seen (record { most = most; places = map standing now })
some_seen change most before now seen is each =
    subst (λ (p : Places). SomeBecome change p (record { most = most; places = map standing now })) is (refl, each)
