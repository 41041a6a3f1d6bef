-- An environment is Busy or bound exactly where one charged invocation is placed in it.
use Rattle.std.proofs.Common.{◌≡◌, ℕ, suc, ◌+◌, ◌<◌, Bool, true, false, cond, eqb, List, [], ◌∷◌, length, Option, Some}
use Rattle.std.proofs.Common.{None, sym, refl, ap, ap₂, ◌∙◌, subst, inl, inr, arith, is_some, ◌&&◌, ◌||◌, ◌==◌}
use Rattle.std.proofs.Common.{true≢false, count_by, nat_lt}
use Rattle.std.proofs.lemmas.Bool.Decides.{nat_tests}
use Rattle.call_types.specs.declared.call.Entry.{Entry}
use Rattle.arn_ids.specs.declared.config.Config.{Config}
use Rattle.call_model.specs.History.{pending, with_tickets, call_of, place_of}
use Rattle.call_model.specs.Stand.{at_hand, is_number}
use Rattle.call_model.specs.Life.{phase}
use Rattle.call_model.specs.Limits.{is_charged_at, busy_at, is_busy_with}
use Rattle.call_model.specs.Next.{IsLegal}
use Rattle.call_model.proofs.Pairs.{eqb-other}
use Rattle.call_model.proofs.AtHand.{held, busy_at_hand, at_hand_is}
use Rattle.call_model.proofs.BoundWaits.{bound_waits}
use Rattle.call_model.proofs.Lives.{lives}
use Rattle.call_model.proofs.Basics.{count_cons, and_left, and_right, number_some, eqb-self}

-- a pair of with_tickets is a ticket of the history with its entry
abbrev pub IsIn : List Entry → ℕ × Entry → Type 0
IsIn h x = (x.0 < length h) × (call_of h x.0 ≡ x.1.call) × (place_of h x.0 ≡ x.1.place)

abbrev pub AreIn : List Entry → List (ℕ × Entry) → Type 0
AreIn h [] = Unit {0}
AreIn h (x ∷ xs) = IsIn h x × AreIn h xs

in_more : (entry : Entry) (h : List Entry) (xs : List (ℕ × Entry)) → AreIn h xs → AreIn (entry ∷ h) xs
in_more entry h [] o = tt
in_more entry h (x ∷ xs) o = ((omega (arith, o.0.0), rw (other) (o.0.1), rw (other) (o.0.2)), in_more entry h xs o.1)
  where
    other : eqb x.0 (length h) ≡ false
    other = eqb-other x.0 (length h) (omega (arith, o.0.0))

pub entries_in : (h : List Entry) → AreIn h (with_tickets h)
entries_in [] = tt
entries_in (entry ∷ h) = ((omega arith, rw (eqb-self (length h)) refl, rw (eqb-self (length h)) refl), in_more entry h (with_tickets h) (entries_in h))

pub count_same : (h : List Entry) (p q : ℕ × Entry → Bool) → ((x : ℕ × Entry) → IsIn h x → p x ≡ q x)
    → (xs : List (ℕ × Entry)) → AreIn h xs → count_by p xs ≡ count_by q xs
count_same h p q f [] o = refl
count_same h p q f (x ∷ xs) o = count_cons p x xs ∙ ap₂ (λ (b : Bool) (n : ℕ). cond b 1 0 + n) (f x o.0) (count_same h p q f xs o.1) ∙ sym (count_cons q x xs)

pub count_split : (h : List Entry) (p q r : ℕ × Entry → Bool)
    → ((x : ℕ × Entry) → IsIn h x → cond (p x) 1 0 ≡ cond (q x) 1 0 + cond (r x) 1 0) → (xs : List (ℕ × Entry))
    → AreIn h xs → count_by p xs ≡ count_by q xs + count_by r xs
count_split h p q r f [] o = refl
count_split h p q r f (x ∷ xs) o =
    rw (count_cons p x xs, count_cons q x xs, count_cons r x xs)
    (add (cond (p x) 1 0) (cond (q x) 1 0) (cond (r x) 1 0) (f x o.0) (count_split h p q r f xs o.1))
  where
    add : (a b c : ℕ) → a ≡ b + c → count_by p xs ≡ count_by q xs + count_by r xs → a + count_by p xs ≡ (b + count_by q xs) + (c + count_by r xs)
    add a b c e k = omega (arith, e, k)

pub count_none : {X : Type 0} (xs : List X) → count_by (λ x. false) xs ≡ 0
count_none [] = refl
count_none (x ∷ xs) = count_cons (λ x. false) x xs ∙ add (count_none xs)
  where
    add : {n : ℕ} → n ≡ 0 → 0 + n ≡ 0
    add q = omega (arith, q)

-- a ticket of the history stands there once
pub number_times : (h : List Entry) (p : ℕ) → count_by (λ x. p == x.0) (with_tickets h) ≡ cond (nat_lt p (length h)) 1 0
number_times [] p = grind (arith, nat_tests)
number_times (entry ∷ h) p =
    count_cons (λ (x : ℕ × Entry). p == x.0) (length h, entry) (with_tickets h)
    ∙ ap (λ (n : ℕ). cond (p == length h) 1 0 + n) (number_times h p) ∙ by_cases (length h)
  where
    by_cases : (n : ℕ) → cond (p == n) 1 0 + cond (nat_lt p n) 1 0 ≡ cond (nat_lt p (suc n)) 1 0
    by_cases n = grind (arith, nat_tests)

pub both_ways : (a b : Bool) → (a ≡ true → b ≡ true) → (b ≡ true → a ≡ true) → a ≡ b
both_ways true b f g = sym (f refl)
both_ways false true f g = g refl
both_ways false false f g = refl

or_true : (a : Bool) → (a || true) ≡ true
or_true true = refl
or_true false = refl

-- A charged invocation of e is the one that e has at hand.
pub charged_here : (config : Config) (h : List Entry) (e : ℕ) (x : ℕ × Entry) → IsLegal config h → IsIn h x
    → (is_number x.1.place e && is_charged_at config h x.0 x.1.place) ≡ is_number (at_hand (phase config h e)) x.0
charged_here config h e x l i =
    both_ways (is_number x.1.place e && is_charged_at config h x.0 x.1.place) (is_number (at_hand (phase config h e)) x.0) there back
  where
    t : ℕ
    t = x.0

    to_number : at_hand (phase config h e) ≡ Some t → is_number (at_hand (phase config h e)) t ≡ true
    to_number q = rw q (eqb-self t)

    hand : (a b : Bool) → pending h t ≡ a → is_busy_with (phase config h e) t ≡ b → (a || b) ≡ true
        → is_number (place_of h t) e ≡ true → at_hand (phase config h e) ≡ Some t
    hand true b p q r k = lives config h e t l k p
    hand false true p q r k = busy_at_hand (phase config h e) t q
    hand false false p q r k = absurd (true≢false (sym r))

    in_place : (o : Option ℕ) → o ≡ Some e → (is_some o && (pending h t || busy_at config h o t)) ≡ true
        → (pending h t || is_busy_with (phase config h e) t) ≡ true
    in_place o q =
        subst
        (λ (o : Option ℕ). (is_some o && (pending h t || busy_at config h o t)) ≡ true → (pending h t || is_busy_with (phase config h e) t) ≡ true)
        (sym q) (λ r. r)

    there : (is_number x.1.place e && is_charged_at config h x.0 x.1.place) ≡ true → is_number (at_hand (phase config h e)) x.0 ≡ true
    there q =
        let k : is_number x.1.place e ≡ true = and_left (is_number x.1.place e) (is_charged_at config h x.0 x.1.place) q in
        to_number
        (hand (pending h t) (is_busy_with (phase config h e) t) refl refl (in_place x.1.place (number_some x.1.place e k) (and_right (is_number x.1.place e) (is_charged_at config h x.0 x.1.place) q)) (ap (λ (o : Option ℕ). is_number o e) i.2 ∙ k))

    out_place : (o : Option ℕ) → o ≡ Some e → (pending h t || is_busy_with (phase config h e) t) ≡ true
        → (is_number o e && (is_some o && (pending h t || busy_at config h o t))) ≡ true
    out_place o q =
        subst
        (λ (o : Option ℕ). (pending h t || is_busy_with (phase config h e) t) ≡ true → (is_number o e && (is_some o && (pending h t || busy_at config h o t))) ≡ true)
        (sym q) (λ r. rw (eqb-self e) r)

    waits : at_hand (phase config h e) ≡ Some t → (pending h t || is_busy_with (phase config h e) t) ≡ true
    waits q = elim (at_hand_is (phase config h e) t q) [
      | inl b ↦ rw b (or_true (pending h t))
      | inr b ↦ rw (bound_waits config h e t l b) refl
    ]

    back : is_number (at_hand (phase config h e)) x.0 ≡ true → (is_number x.1.place e && is_charged_at config h x.0 x.1.place) ≡ true
    back q =
        let a : at_hand (phase config h e) ≡ Some t = number_some (at_hand (phase config h e)) t q in
        out_place x.1.place (sym i.2 ∙ number_some (place_of h t) e ((held config h e t l a).placed)) (waits a)

-- One charged invocation is placed in an environment that has one at hand, and else none.
pub charged_count : (config : Config) (h : List Entry) (e : ℕ) → IsLegal config h
    → count_by (λ x. is_number x.1.place e && is_charged_at config h x.0 x.1.place) (with_tickets h) ≡ cond (is_some (at_hand (phase config h e))) 1 0
charged_count config h e l =
    count_same h (λ x. is_number x.1.place e && is_charged_at config h x.0 x.1.place)
    (λ x. is_number (at_hand (phase config h e)) x.0) (λ x i. charged_here config h e x l i) (with_tickets h)
    (entries_in h)
    ∙ go (at_hand (phase config h e)) refl
  where
    below : (p n : ℕ) → p < n → nat_lt p n ≡ true
    below p n k = grind (arith, nat_tests, k)

    go : (o : Option ℕ) → at_hand (phase config h e) ≡ o → count_by (λ x. is_number o x.0) (with_tickets h) ≡ cond (is_some o) 1 0
    go None q = count_none (with_tickets h)
    go (Some p) q = number_times h p ∙ ap (λ (b : Bool). cond b 1 0) (below p (length h) ((held config h e p l q).older))
