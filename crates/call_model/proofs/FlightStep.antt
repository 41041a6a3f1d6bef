-- What an entry adds to what a function has in flight.
use Rattle.std.proofs.Common.{◌≡◌, ℕ, zero, suc, ◌+◌, ◌<◌, ◌≤◌, Bool, true, false, cond, eqb, List, [], ◌∷◌, length}
use Rattle.std.proofs.Common.{Option, Some, None, sym, refl, ap, ap₂, ◌∙◌, inl, inr, arith, is_some, is_none, not, ◌&&◌}
use Rattle.std.proofs.Common.{◌==◌, true≢false, count_by, nat_le, nat_lt}
use Rattle.std.proofs.lemmas.Bool.Decides.{nat_tests}
use Rattle.call_types.specs.declared.answer.Answer.{Answer}
use Rattle.call_types.specs.declared.call.Call.{Call}
use Rattle.call_types.specs.declared.call.Call.TheVariants.{Invoke}
use Rattle.call_types.specs.declared.call.Entry.{Entry}
use Rattle.arn_ids.specs.declared.config.Config.{Config}
use Rattle.arn_ids.specs.Environments.{count_from, environments, owners, function_of}
use Rattle.call_model.specs.History.{answer_in, or_else, pending, is_expiry, is_invoke_of}
use Rattle.call_model.specs.Stand.{at_hand, is_number}
use Rattle.call_model.specs.Life.{phase}
use Rattle.call_model.specs.Limits.{in_flight}
use Rattle.call_model.specs.Answers.{answers, first_entry}
use Rattle.call_model.specs.Laws.{ended_by, no_longer, admits}
use Rattle.call_model.specs.Next.{IsLegal, Follows}
use Rattle.call_model.proofs.Pairs.{is_some_none}
use Rattle.call_model.proofs.Once.{answers_at}
use Rattle.call_model.proofs.AfterEntry.{place_of_new, call_of_new, pending_new}
use Rattle.call_types.specs.Calls.{is_invoke}
use Rattle.call_model.proofs.AtHand.{from_entry, placed_here}
use Rattle.call_model.proofs.BoundWaits.{invoke_second}
use Rattle.call_model.proofs.Lives.{lives, placed_free}
use Rattle.call_model.proofs.Flight.{placed_silent, placed_invoke, flight, serves, place_for_between, place_for_of}
use Rattle.call_model.proofs.Basics.{eqb-self, count_cons, number_some}

-- the new ticket of a placed Invoke waits
new_waits : (config : Config) (h : List Entry) (entry : Entry) (e : ℕ) → IsLegal config (entry ∷ h)
    → is_number entry.place e ≡ true → pending (entry ∷ h) (length h) ≡ true
new_waits config h entry e l q =
    pending_new config entry h l.0
    ∙ ap₂ (λ (x : Bool) (o : Option Answer). not x && is_none o) (no_expiry entry.call invoked)
    (ap (λ (pairs : List (ℕ × Answer)). answer_in pairs (length h)) l.1.answers ∙ is_some_none (answer_in (answers config h entry.moment entry.call) (length h))
    (answers_at config h entry.moment entry.call (length h) (omega arith)
    ∙ ap₂ (λ (a b : Option Answer). is_some (or_else a b)) (placed_silent config h entry e l.1 invoked q)
    (invoke_second config h (first_entry config h entry.moment entry.call) (length h) (ap is_invoke (call_of_new (first_entry config h entry.moment entry.call) h) ∙ invoked))))
  where
    invoked : is_invoke entry.call ≡ true
    invoked = placed_invoke config h entry.call e (sym l.1.place ∙ number_some entry.place e q)

    no_expiry : (call : Call) → is_invoke call ≡ true → is_expiry call ≡ false
    no_expiry (Invoke f qualified trace body) i = refl
    no_expiry call i = absurd (true≢false (sym i))

-- at one environment: what serves after is what served before, with an Invoke that is placed there and without what ended
one_step : (config : Config) (h : List Entry) (entry : Entry) (e : ℕ) → IsLegal config (entry ∷ h)
    → cond (is_some (at_hand (phase config (entry ∷ h) e))) 1 0 + cond (is_some (ended_by (phase config h e) (phase config (entry ∷ h) e))) 1 0 ≡ cond (is_some (at_hand (phase config h e))) 1 0 + cond (is_number entry.place e) 1 0
one_step config h entry e l = go (is_number entry.place e) refl (at_hand (phase config h e)) refl (at_hand (phase config (entry ∷ h) e)) refl
  where
    free : is_number entry.place e ≡ true → at_hand (phase config h e) ≡ None
    free q = (placed_free config h entry.call e 0 0 0 (sym l.1.place ∙ number_some entry.place e q)).0

    taken : is_number entry.place e ≡ true → at_hand (phase config (entry ∷ h) e) ≡ Some (length h)
    taken q = lives config (entry ∷ h) e (length h) l (ap (λ (o : Option ℕ). is_number o e) (place_of_new entry h) ∙ q) (new_waits config h entry e l q)

    stays : (p : ℕ) → is_number entry.place e ≡ false → at_hand (phase config (entry ∷ h) e) ≡ Some p → at_hand (phase config h e) ≡ Some p
    stays p q r = elim (from_entry config h entry e p l.0 l.1 r) [
      | inl k ↦ absurd (true≢false (sym (placed_here h entry e k.1 k.2) ∙ q))
      | inr k ↦ k
    ]

    none : {p : ℕ} → Some p ≡ None → ⊥
    none q = cc

    go : (n : Bool) → is_number entry.place e ≡ n → (a : Option ℕ) → at_hand (phase config h e) ≡ a → (b : Option ℕ)
        → at_hand (phase config (entry ∷ h) e) ≡ b
        → cond (is_some b) 1 0 + cond (is_some (no_longer a b)) 1 0 ≡ cond (is_some a) 1 0 + cond n 1 0
    go true q None u (Some p) v = refl
    go true q None u None v = absurd (none (sym (taken q) ∙ v))
    go true q (Some p) u b v = absurd (none (sym u ∙ free q))
    go false q None u None v = refl
    go false q None u (Some p) v = absurd (none (sym (stays p q v) ∙ u))
    go false q (Some p) u None v = refl
    go false q (Some p) u (Some r) v = rw (same_one p r (sym (stays r q v) ∙ u)) refl
      where
        same_one : (p r : ℕ) → Some r ≡ Some p → eqb r p ≡ true
        same_one p r k = let e : r ≡ p = cc in rw e (eqb-self p)

-- two counts over a list that add up, item by item, to two others
count_two : (p q r s : ℕ → Bool) → ((x : ℕ) → cond (p x) 1 0 + cond (q x) 1 0 ≡ cond (r x) 1 0 + cond (s x) 1 0)
    → (xs : List ℕ) → count_by p xs + count_by q xs ≡ count_by r xs + count_by s xs
count_two p q r s f [] = refl
count_two p q r s f (x ∷ xs) =
    rw (count_cons p x xs, count_cons q x xs, count_cons r x xs, count_cons s x xs)
    (add (cond (p x) 1 0) (cond (q x) 1 0) (cond (r x) 1 0) (cond (s x) 1 0) (count_by p xs) (count_by q xs) (count_by r xs) (count_by s xs) (f x) (count_two p q r s f xs))
  where
    add : (a b c d k l m n : ℕ) → a + b ≡ c + d → k + l ≡ m + n → (a + k) + (b + l) ≡ (c + m) + (d + n)
    add a b c d k l m n u v = omega (arith, u, v)

-- a number stands once among n from a on
count_number : (e : ℕ) (b : ℕ → Bool) (a n : ℕ) → count_by (λ d. b d && (e == d)) (count_from a n) ≡ cond (b e && (nat_le a e && nat_lt e (a + n))) 1 0
count_number e b a zero = empty (b e)
  where
    empty : (x : Bool) → ◌≡◌ {A = ℕ} 0 (cond (x && (nat_le a e && nat_lt e (a + 0))) 1 0)
    empty true = grind (arith, nat_tests)
    empty false = refl
count_number e b a (suc n) =
    count_cons (λ (d : ℕ). b d && (e == d)) a (count_from (suc a) n)
    ∙ ap (λ (m : ℕ). cond (b a && (e == a)) 1 0 + m) (count_number e b (suc a) n) ∙ go (b a) (b e) (λ q. ap b (sym q))
  where
    both : cond (e == a) 1 0 + cond (nat_le (suc a) e && nat_lt e (suc a + n)) 1 0 ≡ cond (nat_le a e && nat_lt e (a + suc n)) 1 0
    both = grind (arith, nat_tests)

    not_it : (e ≡ a → ⊥) → cond (e == a) 1 0 + 0 ≡ 0
    not_it ne = grind (arith, nat_tests, ne)

    later : (e ≡ a → ⊥) → 0 + cond (nat_le (suc a) e && nat_lt e (suc a + n)) 1 0 ≡ cond (nat_le a e && nat_lt e (a + suc n)) 1 0
    later ne = grind (arith, nat_tests, ne)

    go : (x y : Bool) → (e ≡ a → x ≡ y)
        → cond (x && (e == a)) 1 0 + cond (y && (nat_le (suc a) e && nat_lt e (suc a + n))) 1 0 ≡ cond (y && (nat_le a e && nat_lt e (a + suc n))) 1 0
    go true true f = both
    go false false f = refl
    go true false f = not_it (λ q. true≢false (f q))
    go false true f = later (λ q. true≢false (sym (f q)))

-- the environments of a function in which an entry places its Invoke
placed_count : (config : Config) (h : List Entry) (entry : Entry) (f : ℕ) → Follows config h entry
    → count_by (λ e. (function_of config e == f) && is_number entry.place e) (environments config) ≡ cond (admits f entry) 1 0
placed_count config h entry f w = go entry.place refl
  where
    n : ℕ
    n = length (owners config)

    all_false : (xs : List ℕ) → count_by (λ e. (function_of config e == f) && false) xs ≡ 0
    all_false [] = refl
    all_false (x ∷ xs) = count_cons (λ (e : ℕ). (function_of config e == f) && false) x xs ∙ zero_and (function_of config x == f) (all_false xs)
      where
        zero_and : (b : Bool) {m : ℕ} → m ≡ 0 → cond (b && false) 1 0 + m ≡ 0
        zero_and true k = omega (arith, k)
        zero_and false k = omega (arith, k)

    within : (b : Bool) (e : ℕ) → (1 ≤ e) × (e < 1 + n) → ◌≡◌ {A = ℕ} (cond (b && (nat_le 1 e && nat_lt e (1 + n))) 1 0) (cond (b && true) 1 0)
    within true e k = grind (arith, nat_tests, k.0, k.1)
    within false e k = refl

    no_place : (b : Bool) → ◌≡◌ {A = ℕ} 0 (cond (b && false) 1 0)
    no_place true = refl
    no_place false = refl

    go : (o : Option ℕ) → entry.place ≡ o
        → count_by (λ e. (function_of config e == f) && is_number o e) (environments config) ≡ cond (is_invoke_of f entry.call && is_some o) 1 0
    go None q = all_false (environments config) ∙ no_place (is_invoke_of f entry.call)
    go (Some e) q =
        count_number e (λ d. function_of config d == f) 1 n
        ∙ within (function_of config e == f) e (place_for_between config h entry.call e (sym w.place ∙ q))
        ∙ ap (λ (b : Bool). cond (b && true) 1 0) (sym (place_for_of config h entry.call f e (sym w.place ∙ q)))

-- What an entry adds to what a function has in flight: an Invoke that it admits, less those whose charge it ends.
pub flight_step : (config : Config) (h : List Entry) (entry : Entry) (f : ℕ) → IsLegal config (entry ∷ h)
    → in_flight config (entry ∷ h) f + count_by (λ e. (function_of config e == f) && is_some (ended_by (phase config h e) (phase config (entry ∷ h) e))) (environments config) ≡ in_flight config h f + cond (admits f entry) 1 0
flight_step config h entry f l =
    rw (flight config (entry ∷ h) f l, flight config h f l.0)
    (count_two (serves config (entry ∷ h) f) (λ e. (function_of config e == f) && is_some (ended_by (phase config h e) (phase config (entry ∷ h) e))) (serves config h f) (λ e. (function_of config e == f) && is_number entry.place e) each (environments config)
    ∙ ap (λ (m : ℕ). count_by (serves config h f) (environments config) + m) (placed_count config h entry f l.1))
  where
    of_function : (b x y z w : Bool) → cond x 1 0 + cond y 1 0 ≡ cond z 1 0 + cond w 1 0
        → cond (b && x) 1 0 + cond (b && y) 1 0 ≡ cond (b && z) 1 0 + cond (b && w) 1 0
    of_function true x y z w k = k
    of_function false x y z w k = refl

    each : (e : ℕ)
        → cond (serves config (entry ∷ h) f e) 1 0 + cond ((function_of config e == f) && is_some (ended_by (phase config h e) (phase config (entry ∷ h) e))) 1 0 ≡ cond (serves config h f e) 1 0 + cond ((function_of config e == f) && is_number entry.place e) 1 0
    each e =
        of_function (function_of config e == f) (is_some (at_hand (phase config (entry ∷ h) e)))
        (is_some (ended_by (phase config h e) (phase config (entry ∷ h) e))) (is_some (at_hand (phase config h e)))
        (is_number entry.place e) (one_step config h entry e l)
