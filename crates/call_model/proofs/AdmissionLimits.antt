-- No admission takes a reserved function past its reservation, nor the unreserved ones together past the remainder.
use Rattle.std.proofs.Common.{◌≡◌, ℕ, ◌+◌, ◌<◌, ◌≤◌, Bool, true, false, cond, List, [], ◌∷◌, length, Option, Some, None}
use Rattle.std.proofs.Common.{sym, refl, ◌∙◌, inl, inr, arith, is_some, is_none, ◌&&◌, ◌||◌, true≢false, count_by, ◌-◌}
use Rattle.std.proofs.Common.{ap, ap₂, subst, ◌⊎◌, ◌==◌, if◌then◌else◌, nat_le, sum_by}
use Rattle.call_types.specs.declared.call.Entry.{Entry}
use Rattle.arn_ids.specs.declared.config.Config.{Config}
use Rattle.call_model.specs.History.{answer_in, pending, with_tickets, is_invoke_of, stopped}
use Rattle.call_model.specs.Life.{phase}
use Rattle.call_model.specs.Limits.{is_charged_at, busy_at, is_busy_with, in_flight, place, place_for, verdict}
use Rattle.call_model.specs.Limits.{AfterStop, Refuses, admitted_to, by_limits, where_placed, reservation, reserves}
use Rattle.call_model.specs.Limits.{remainder, or_zero, unreserved_in_flight}
use Rattle.call_model.specs.Next.{IsLegal, Follows}
use Rattle.call_model.proofs.Once.{pending_cons}
use Rattle.call_model.proofs.AtHand.{from_entry, busy_at_hand, at_hand_is}
use Rattle.call_model.proofs.BoundWaits.{bound_waits}
use Rattle.call_model.proofs.Basics.{count_cons, counted_once, and_left, and_right, eqb-self}
use Rattle.std.specs.List.{list_any}
use Rattle.std.proofs.lemmas.Bool.Decides.{eqb_tells, nat_tests}
use Rattle.std.proofs.lemmas.Bool.{eqb-true}
use Rattle.std.proofs.lemmas.List.Sums.{sum_by-cons}
use Rattle.call_types.specs.declared.answer.Throttle.TheVariants.{Function as ByFunction, Account as ByAccount}
use Rattle.call_types.specs.declared.call.Call.{Call}
use Rattle.call_types.specs.declared.call.Call.TheVariants.{Invoke, Reserve}
use Rattle.arn_ids.specs.Environments.{function_numbers, count_from}
use Rattle.call_model.specs.Laws.{admits, is_reserve, re_reserved}
use Rattle.call_model.proofs.Charges.{IsIn, AreIn, entries_in}

-- what is charged after an entry was charged before it, the entry's own Invoke aside
pub charged_before : (config : Config) (h : List Entry) (entry : Entry) (t : ℕ) (x : Entry) → IsLegal config h
    → Follows config h entry → t < length h → is_charged_at config (entry ∷ h) t x.place ≡ true
    → is_charged_at config h t x.place ≡ true
charged_before config h entry t x l f lt c = go x.place c
  where
    was_pending : (b a : Bool) → (b && a) ≡ true → b ≡ true
    was_pending true a q = refl
    was_pending false a q = q

    or_true : (a : Bool) → (a || true) ≡ true
    or_true true = refl
    or_true false = refl

    busy : (e : ℕ) → is_busy_with (phase config (entry ∷ h) e) t ≡ true → (pending h t || is_busy_with (phase config h e) t) ≡ true
    busy e q = elim (from_entry config h entry e t l f (busy_at_hand (phase config (entry ∷ h) e) t q)) [
      | inl new ↦ absurd (omega (arith, new.0, lt))
      | inr old ↦ elim (at_hand_is (phase config h e) t old) [
        | inl b ↦ rw b (or_true (pending h t))
        | inr b ↦ rw (bound_waits config h e t l b) refl
      ]
    ]

    either : (e : ℕ) (a b : Bool) → pending (entry ∷ h) t ≡ a → is_busy_with (phase config (entry ∷ h) e) t ≡ b
        → (a || b) ≡ true → (pending h t || is_busy_with (phase config h e) t) ≡ true
    either e true b p q r = rw (was_pending (pending h t) (is_none (answer_in entry.answers t)) (sym (pending_cons entry h t (omega (arith, lt))) ∙ p)) refl
    either e false true p q r = busy e q
    either e false false p q r = absurd (true≢false (sym r))

    go : (o : Option ℕ) → (is_some o && (pending (entry ∷ h) t || busy_at config (entry ∷ h) o t)) ≡ true
        → (is_some o && (pending h t || busy_at config h o t)) ≡ true
    go None q = q
    go (Some e) q = either e (pending (entry ∷ h) t) (is_busy_with (phase config (entry ∷ h) e) t) refl refl q

count_below : (h : List Entry) (p q : ℕ × Entry → Bool) → ((x : ℕ × Entry) → IsIn h x → p x ≡ true → q x ≡ true)
    → (xs : List (ℕ × Entry)) → AreIn h xs → count_by p xs ≤ count_by q xs
count_below h p q f [] o = omega arith
count_below h p q f (x ∷ xs) o = rw (count_cons p x xs, count_cons q x xs) (go (p x) (q x) (f x o.0) (count_below h p q f xs o.1))
  where
    go : (s t : Bool) → (s ≡ true → t ≡ true) → count_by p xs ≤ count_by q xs → cond s 1 0 + count_by p xs ≤ cond t 1 0 + count_by q xs
    go true true g k = omega (arith, k)
    go true false g k = absurd (true≢false (sym (g refl)))
    go false true g k = omega (arith, k)
    go false false g k = omega (arith, k)

-- only the Invoke that an entry admits is charged newly
pub flight_step : (config : Config) (h : List Entry) (entry : Entry) (d : ℕ) → IsLegal config h → Follows config h entry
    → in_flight config (entry ∷ h) d ≤ in_flight config h d + cond (admits d entry) 1 0
unfolding in_flight
flight_step config h entry d l w =
    rw (count_cons in_new (length h, entry) (with_tickets h))
    (add (head (is_invoke_of d entry.call) (is_some entry.place) _) (count_below h in_new in_old kept (with_tickets h) (entries_in h)))
  where
    in_new : ℕ × Entry → Bool
    in_new taken = is_invoke_of d taken.1.call && is_charged_at config (entry ∷ h) taken.0 taken.1.place

    in_old : ℕ × Entry → Bool
    in_old taken = is_invoke_of d taken.1.call && is_charged_at config h taken.0 taken.1.place

    kept : (x : ℕ × Entry) → IsIn h x → in_new x ≡ true → in_old x ≡ true
    kept x i q = both (is_invoke_of d x.1.call) q
      where
        both : (b : Bool) → (b && is_charged_at config (entry ∷ h) x.0 x.1.place) ≡ true → (b && is_charged_at config h x.0 x.1.place) ≡ true
        both true k = charged_before config h entry x.0 x.1 l w i.0 k
        both false k = k

    head : (a b c : Bool) → cond (a && (b && c)) 1 0 ≤ cond (a && b) 1 0
    head true true true = omega arith
    head true true false = omega arith
    head true false c = omega arith
    head false b c = omega arith

    add : {a b m n : ℕ} → a ≤ b → m ≤ n → a + m ≤ n + b
    add p q = omega (arith, p, q)

not_reserves : (call : Call) (d : ℕ) → is_reserve call ≡ false → reserves d call ≡ false
not_reserves (Reserve f count) d q = absurd (true≢false q)
not_reserves call d q = refl

-- a call that is no Reserve leaves the reservations
pub reservation_kept : (config : Config) (h : List Entry) (entry : Entry) → is_reserve entry.call ≡ false → (d : ℕ)
    → reservation config (entry ∷ h) d ≡ reservation config h d
unfolding reservation
reservation_kept config h entry q d = rw (not_reserves entry.call d q) refl

pub remainder_kept : (config : Config) (h : List Entry) (entry : Entry) → is_reserve entry.call ≡ false → remainder config (entry ∷ h) ≡ remainder config h
remainder_kept config h entry q = λ i. config.account_limit - sum_by (λ f. or_zero (reservation_kept config h entry q f i)) (function_numbers config)

sum_more : (g k : ℕ → ℕ) (p : ℕ → Bool) → ((d : ℕ) → g d ≤ k d + cond (p d) 1 0) → (xs : List ℕ) → sum_by g xs ≤ sum_by k xs + count_by p xs
sum_more g k p f [] = omega arith
sum_more g k p f (x ∷ xs) =
    rw (sum_by-cons g x xs, sum_by-cons k x xs, count_cons p x xs)
    (add (g x) (k x) (cond (p x) 1 0) (sum_by g xs) (sum_by k xs) (count_by p xs) (f x) (sum_more g k p f xs))
  where
    add : (a b c m n r : ℕ) → a ≤ b + c → m ≤ n + r → a + m ≤ (b + n) + (c + r)
    add a b c m n r p q = omega (arith, p, q)

-- what an entry that is no Reserve adds to the unreserved sum
pub unreserved_step : (config : Config) (h : List Entry) (entry : Entry) → IsLegal config h → Follows config h entry → is_reserve entry.call ≡ false
    → unreserved_in_flight config (entry ∷ h) ≤ unreserved_in_flight config h + count_by (λ d. admits d entry && is_none (reservation config h d)) (function_numbers config)
unreserved_step config h entry l w q =
    sum_more (λ f. if is_none (reservation config (entry ∷ h) f) then in_flight config (entry ∷ h) f else 0)
    (λ f. if is_none (reservation config h f) then in_flight config h f else 0)
    (λ d. admits d entry && is_none (reservation config h d)) each (function_numbers config)
  where
    by_reserved : (b c : Bool) (m n : ℕ) → m ≤ n + cond c 1 0 → (if b then m else 0) ≤ (if b then n else 0) + cond (c && b) 1 0
    by_reserved true true m n k = k
    by_reserved true false m n k = k
    by_reserved false true m n k = omega arith
    by_reserved false false m n k = omega arith

    each : (d : ℕ)
        → (if is_none (reservation config (entry ∷ h) d) then in_flight config (entry ∷ h) d else 0) ≤ (if is_none (reservation config h d) then in_flight config h d else 0) + cond (admits d entry && is_none (reservation config h d)) 1 0
    each d =
        rw (reservation_kept config h entry q d)
        (by_reserved (is_none (reservation config h d)) (admits d entry) (in_flight config (entry ∷ h) d) (in_flight config h d) (flight_step config h entry d l w))

-- an entry admits an Invoke of one function at most
admits_once : (config : Config) (h : List Entry) (entry : Entry) (f n a : ℕ) → admits f entry ≡ true
    → count_by (λ d. admits d entry && is_none (reservation config h d)) (count_from a n) ≤ cond (is_none (reservation config h f)) 1 0
admits_once config h entry f n a q = go entry.call entry.place q
  where
    less : (s t : Bool) → cond (s && t) 1 0 ≤ cond t 1 0
    less true t = at_most t
      where
        at_most : (t : Bool) → cond t 1 0 ≤ cond t 1 0
        at_most true = omega arith
        at_most false = omega arith
    less false true = omega arith
    less false false = omega arith

    regroup : (g : ℕ) (o : Option ℕ)
        → ◌≡◌ {A = ℕ → Bool} (λ (d : ℕ). ((g == d) && is_some o) && is_none (reservation config h d)) (λ (d : ℕ). (g == d) && (is_some o && is_none (reservation config h d)))
    regroup g o = λ i d. assoc (g == d) (is_some o) (is_none (reservation config h d)) i
      where
        assoc : (a b c : Bool) → ((a && b) && c) ≡ (a && (b && c))
        assoc true b c = refl
        assoc false b c = refl

    le_trans : {a b c : ℕ} → a ≤ b → b ≤ c → a ≤ c
    le_trans p q = omega (arith, p, q)

    go : (call : Call) (o : Option ℕ) → (is_invoke_of f call && is_some o) ≡ true
        → count_by (λ d. (is_invoke_of d call && is_some o) && is_none (reservation config h d)) (count_from a n) ≤ cond (is_none (reservation config h f)) 1 0
    go (Invoke g qualified trace body) o r =
        let same : g ≡ f = eqb-true g f (and_left (g == f) (is_some o) r) in
        subst (λ (p : ℕ → Bool). count_by p (count_from a n) ≤ cond (is_none (reservation config h f)) 1 0)
        (sym (regroup g o))
        (subst (λ (k : ℕ). count_by (λ d. (g == d) && (is_some o && is_none (reservation config h d))) (count_from a n) ≤ cond (is_none (reservation config h k)) 1 0) same
        (rw (counted_once g (λ d. is_some o && is_none (reservation config h d)) a n) (le_trans (less (list_any (λ d. g == d) (count_from a n)) (is_some o && is_none (reservation config h g))) (less (is_some o) (is_none (reservation config h g))))))
    go call o r = absurd (true≢false (sym r))

-- what the verdict of an admission says
admitted_below : (config : Config) (h : List Entry) (f : ℕ) → is_some (admitted_to (verdict config h f)) ≡ true
    → reservation config h f ≡ None → unreserved_in_flight config h < remainder config h
unfolding verdict
admitted_below config h f v r = go (stopped h) (rw r at v)
  where
    lt : (a b : ℕ) → nat_le a b ≡ false → b < a
    lt a b k = grind (arith, nat_tests, k)

    tested : (b : Bool) → nat_le (remainder config h) (unreserved_in_flight config h) ≡ b
        → is_some (admitted_to (if b then Refuses ByAccount else where_placed (place config h f))) ≡ true
        → unreserved_in_flight config h < remainder config h
    tested true t w = absurd (true≢false (sym w))
    tested false t w = lt (remainder config h) (unreserved_in_flight config h) t

    go : (b : Bool) → is_some (admitted_to (if b then AfterStop else by_limits config h f None)) ≡ true → unreserved_in_flight config h < remainder config h
    go true w = absurd (true≢false (sym w))
    go false w = tested (nat_le (remainder config h) (unreserved_in_flight config h)) refl w

admitted_under : (config : Config) (h : List Entry) (f n : ℕ) → is_some (admitted_to (verdict config h f)) ≡ true
    → reservation config h f ≡ Some n → in_flight config h f < n
unfolding verdict
admitted_under config h f n v r = go (stopped h) (rw r at v)
  where
    lt : (a b : ℕ) → nat_le a b ≡ false → b < a
    lt a b k = grind (arith, nat_tests, k)

    tested : (b : Bool) → nat_le n (in_flight config h f) ≡ b
        → is_some (admitted_to (if b then Refuses ByFunction else where_placed (place config h f))) ≡ true
        → in_flight config h f < n
    tested true t w = absurd (true≢false (sym w))
    tested false t w = lt n (in_flight config h f) t

    go : (b : Bool) → is_some (admitted_to (if b then AfterStop else by_limits config h f (Some n))) ≡ true → in_flight config h f < n
    go true w = absurd (true≢false (sym w))
    go false w = tested (nat_le n (in_flight config h f)) refl w

-- an entry that admits an Invoke of f is no Reserve, and its verdict admits
admission : (config : Config) (h : List Entry) (entry : Entry) (f : ℕ) → Follows config h entry → admits f entry ≡ true
    → (is_reserve entry.call ≡ false) × (is_some (admitted_to (verdict config h f)) ≡ true)
admission config h entry f w q = go entry.call (ap (λ (o : Option ℕ). is_invoke_of f entry.call && is_some o) (sym (w.place)) ∙ q)
  where
    go : (call : Call) → (is_invoke_of f call && is_some (place_for config h call)) ≡ true
        → (is_reserve call ≡ false) × (is_some (admitted_to (verdict config h f)) ≡ true)
    go (Invoke g qualified trace body) r =
        (refl, ap (λ (d : ℕ). is_some (admitted_to (verdict config h d))) (sym (eqb-true g f (and_left (g == f) (is_some (admitted_to (verdict config h g))) r))) ∙ and_right (g == f) (is_some (admitted_to (verdict config h g))) r)
    go call r = absurd (true≢false (sym (and_left (is_invoke_of f call) (is_some (place_for config h call)) r)))

-- After an entry that admits an Invoke of a reserved function, it has no more in flight than its reservation.
pub within_reservation : (config : Config) (h : List Entry) (entry : Entry) (f n : ℕ) → IsLegal config (entry ∷ h)
    → admits f entry ≡ true → reservation config (entry ∷ h) f ≡ Some n → in_flight config (entry ∷ h) f ≤ n
within_reservation config h entry f n l q r =
    let a : (is_reserve entry.call ≡ false) × (is_some (admitted_to (verdict config h f)) ≡ true) = admission config h entry f l.1 q in
    add (admitted_under config h f n a.1 (sym (reservation_kept config h entry a.0 f) ∙ r)) (rw q at (flight_step config h entry f l.0 l.1))
  where
    add : {a b n : ℕ} → a < n → b ≤ a + 1 → b ≤ n
    add p q = omega (arith, p, q)

-- After an entry that admits an Invoke of an unreserved function, the unreserved ones have no more in flight than the remainder.
pub within_remainder : (config : Config) (h : List Entry) (entry : Entry) (f : ℕ) → IsLegal config (entry ∷ h)
    → admits f entry ≡ true → reservation config (entry ∷ h) f ≡ None
    → unreserved_in_flight config (entry ∷ h) ≤ remainder config (entry ∷ h)
within_remainder config h entry f l q r =
    let a : (is_reserve entry.call ≡ false) × (is_some (admitted_to (verdict config h f)) ≡ true) = admission config h entry f l.1 q in
    let none : reservation config h f ≡ None = sym (reservation_kept config h entry a.0 f) ∙ r in
    rw (remainder_kept config h entry a.0)
    (add (admitted_below config h f a.1 none) (unreserved_step config h entry l.0 l.1 a.0) (rw none at (admits_once config h entry f (length config.functions) 1 q)))
  where
    add : {a b c n : ℕ} → a < n → b ≤ a + c → c ≤ 1 → b ≤ n
    add p q r = omega (arith, p, q, r)

sum_zero : (b : ℕ → Bool) (xs : List ℕ) → sum_by (λ f. if b f then 0 else 0) xs ≡ 0
sum_zero b [] = refl
sum_zero b (x ∷ xs) = sum_by-cons (λ f. if b f then 0 else 0) x xs ∙ add (either (b x)) (sum_zero b xs)
  where
    either : (c : Bool) → ◌≡◌ {A = ℕ} (if c then 0 else 0) 0
    either true = refl
    either false = refl

    add : {a m : ℕ} → a ≡ 0 → m ≡ 0 → a + m ≡ 0
    add p q = omega (arith, p, q)

or_last : (a b : Bool) → (a || b) ≡ false → (a ≡ false) × (b ≡ false)
or_last true b q = absurd (true≢false q)
or_last false b q = (refl, q)

-- Without a Reserve a reserved function never has more in flight than its reservation.
pub ever_within_reservation : (config : Config) (h : List Entry) (f n : ℕ) → IsLegal config h → re_reserved h ≡ false
    → reservation config h f ≡ Some n → in_flight config h f ≤ n
unfolding in_flight
ever_within_reservation config [] f n l q r = omega arith
ever_within_reservation config (entry ∷ h) f n l q r = go (admits f entry) refl (ever_within_reservation config h f n l.0)
  where
    none : (is_reserve entry.call ≡ false) × (re_reserved h ≡ false)
    none = or_last (is_reserve entry.call) (re_reserved h) q

    add : {a b n : ℕ} → a ≤ n → b ≤ a + 0 → b ≤ n
    add p q = omega (arith, p, q)

    go : (b : Bool) → admits f entry ≡ b
        → (re_reserved h ≡ false → reservation config h f ≡ Some n → in_flight config h f ≤ n)
        → in_flight config (entry ∷ h) f ≤ n
    go true k ih = within_reservation config h entry f n l k r
    go false k ih = add (ih none.1 (sym (reservation_kept config h entry none.0 f) ∙ r)) (rw k at (flight_step config h entry f l.0 l.1))

-- whether an entry admits an Invoke of an unreserved function
unreserved_admitted : (config : Config) (h : List Entry) (entry : Entry)
    → ((f : ℕ) × ((admits f entry ≡ true) × (reservation config h f ≡ None))) ⊎ ((d : ℕ) → (admits d entry && is_none (reservation config h d)) ≡ false)
unreserved_admitted config h entry = go entry.call entry.place
  where
    not_both : (a b c : Bool) → c ≡ false → ((a && b) && c) ≡ false
    not_both true true c q = q
    not_both true false c q = refl
    not_both false b c q = refl

    at_one : (g d : ℕ) → is_none (reservation config h g) ≡ false → (((g == d) && true) && is_none (reservation config h d)) ≡ false
    at_one g d q = elim (eqb_tells g d) [
      | inl p ↦ not_both (g == d) true (is_none (reservation config h d)) (ap (λ (n : ℕ). is_none (reservation config h n)) (sym p.1) ∙ q)
      | inr p ↦ rw p.0 refl
    ]

    no_and : (a b : Bool) → ((a && false) && b) ≡ false
    no_and true b = refl
    no_and false b = refl

    by_reservation : (g : ℕ) (r : Option ℕ) → reservation config h g ≡ r
        → ((f : ℕ) × ((((g == f) && true) ≡ true) × (reservation config h f ≡ None))) ⊎ ((d : ℕ) → (((g == d) && true) && is_none (reservation config h d)) ≡ false)
    by_reservation g None q = inl (g, (rw (eqb-self g) refl, q))
    by_reservation g (Some n) q = inr (λ d. at_one g d (ap is_none q))

    go : (call : Call) (o : Option ℕ)
        → ((f : ℕ) × (((is_invoke_of f call && is_some o) ≡ true) × (reservation config h f ≡ None))) ⊎ ((d : ℕ) → ((is_invoke_of d call && is_some o) && is_none (reservation config h d)) ≡ false)
    go (Invoke g qualified trace body) (Some e) = by_reservation g (reservation config h g) refl
    go (Invoke g qualified trace body) None = inr (λ d. no_and (g == d) (is_none (reservation config h d)))
    go call o = inr (λ d. refl)

count_never : (p : ℕ → Bool) → ((d : ℕ) → p d ≡ false) → (xs : List ℕ) → count_by p xs ≡ 0
count_never p f [] = refl
count_never p f (x ∷ xs) = count_cons p x xs ∙ ap₂ (λ (b : Bool) (m : ℕ). cond b 1 0 + m) (f x) (count_never p f xs)

-- Without a Reserve the unreserved functions never have more in flight than the remainder.
pub ever_within_remainder : (config : Config) (h : List Entry) → IsLegal config h → re_reserved h ≡ false → unreserved_in_flight config h ≤ remainder config h
unfolding in_flight
ever_within_remainder config [] l q = rw (sum_zero (λ f. is_none (reservation config [] f)) (function_numbers config)) (omega arith)
ever_within_remainder config (entry ∷ h) l q = go (unreserved_admitted config h entry) (ever_within_remainder config h l.0)
  where
    none : (is_reserve entry.call ≡ false) × (re_reserved h ≡ false)
    none = or_last (is_reserve entry.call) (re_reserved h) q

    add : {a b c n : ℕ} → a ≤ n → b ≤ a + c → c ≡ 0 → b ≤ n
    add p q r = omega (arith, p, q, r)

    go : ((f : ℕ) × ((admits f entry ≡ true) × (reservation config h f ≡ None))) ⊎ ((d : ℕ) → (admits d entry && is_none (reservation config h d)) ≡ false)
        → (re_reserved h ≡ false → unreserved_in_flight config h ≤ remainder config h)
        → unreserved_in_flight config (entry ∷ h) ≤ remainder config (entry ∷ h)
    go (inl k) ih = within_remainder config h entry k.0 l (k.1.0) (reservation_kept config h entry none.0 k.0 ∙ k.1.1)
    go (inr k) ih =
        rw (remainder_kept config h entry none.0)
        (add (ih none.1) (unreserved_step config h entry l.0 l.1 none.0) (count_never (λ d. admits d entry && is_none (reservation config h d)) k (function_numbers config)))
