-- The pool after a call: what is in flight, and the reservation that a Reserve puts in force.
use Rattle.std.proofs.Common.{◌≡◌, ◌≢◌, ℕ, ◌+◌, ◌-◌, ◌≤◌, Bool, true, false, List, ◌∷◌, length, set, Option, Some, None}
use Rattle.std.proofs.Common.{sym, refl, ap, ap₂, ◌∙◌, arith, if◌then◌else◌, true≢false, ◌==◌, count_by, subst}
use Rattle.std.proofs.lemmas.List.{length-map}
use Rattle.arn_ids.specs.declared.config.Config.{Config}
use Rattle.arn_ids.specs.Environments.{function_numbers}
use Rattle.call_types.specs.declared.answer.Answer.{Answer}
use Rattle.call_types.specs.declared.answer.Answer.TheVariants.{Stopped, Reserved, Unreserved}
use Rattle.call_types.specs.declared.call.Call.{Call}
use Rattle.call_types.specs.declared.call.Call.TheVariants.{Reserve}
use Rattle.call_types.specs.declared.call.Entry.{Entry}
use Rattle.call_model.specs.Answers.{own_first, reserve_answer}
use Rattle.call_model.specs.History.{answer_in, stopped}
use Rattle.call_model.specs.Limits.{reservation, reserves, reserved_by, in_flight}
use Rattle.call_model.specs.Next.{IsLegal, Follows}
use Rattle.call_model.proofs.Basics.{eqb-self}
use Rattle.call_model.proofs.Pairs.{eqb-other}
use Rattle.environment_step.proofs.Stands.{one_changes}
use Rattle.concurrency_pool.specs.declared.pool.Usage.{Usage}
use Rattle.concurrency_pool.specs.Meets.{numbers, usage, by_reserve}
use Rattle.concurrency_pool.specs.Numbers.{Numbers}
use Rattle.concurrency_pool.specs.Pools.{may_reserve, with_reserved}
use Rattle.concurrency_pool.proofs.History as pool
use Rattle.account_book.specs.Reserving.{in_force, IsInOrder, IsAllowed}
use Rattle.fleet.specs.declared.site.Site.{Site}
use Rattle.account_book.specs.Fleets.{flown, serves_function}
use Rattle.account_book.specs.OwnAnswers.{book_answer}
use Rattle.fleet.specs.Sites.{sites}
use Rattle.account_book.specs.Taking.{IsKnown}
use Rattle.account_book.proofs.Concerned.{sites_nowhere}
use Rattle.account_book.proofs.EntryAnswers.{own_homeless}
use Rattle.fleet.proofs.Loops.{count_length}
use Rattle.account_book.proofs.FleetMeets.{numbers_flown, numbers_next, in_flight_is}

-- whether a call sets a reservation
abbrev is_reserve : Call → Bool
is_reserve (Reserve f count) = true
is_reserve call = false

-- another call leaves the reservations, and puts none in force
reserves_none : (call : Call) (f : ℕ) → is_reserve call ≡ false → reserves f call ≡ false
reserves_none (Reserve g count) f q = absurd (true≢false q)
reserves_none call f q = refl

none_in_force : (call : Call) (own : Option Answer) (pool : Numbers) → is_reserve call ≡ false → in_force call own pool ≡ pool
none_in_force (Reserve g count) own pool q = absurd (true≢false q)
none_in_force call own pool q = refl

none_in_order : (call : Call) (own : Option Answer) (pool : Numbers) → is_reserve call ≡ false → IsInOrder pool call own
none_in_order (Reserve g count) own pool q = absurd (true≢false q)
none_in_order call own pool q = tt

-- what a Reserve is answered
reserve_own : (config : Config) (h : List Entry) (f : ℕ) (count : Option ℕ)
    → book_answer config h (Reserve f count) ≡ Some (if stopped h then Stopped else reserve_answer config h f count)
unfolding own_first
reserve_own config h f count = refl

-- what sets a reservation
abbrev sets : Answer → Bool
sets (Reserved n) = true
sets Unreserved = true
sets a = false

-- by what the pool says
pub data Decided (pool : Numbers) (f : ℕ) (count : Option ℕ) (a : Answer) : Type 0 where
  Taken : may_reserve pool f count ≡ true → sets a ≡ true → ((before : Option ℕ) → reserved_by (Some a) before ≡ count) → Decided pool f count a
  Left : sets a ≡ false → ((before : Option ℕ) → reserved_by (Some a) before ≡ before) → Decided pool f count a

decided : (config : Config) (h : List Entry) (f : ℕ) (count : Option ℕ) → 1 ≤ f → f ≤ length config.functions
    → Decided (numbers config h) f count (if stopped h then Stopped else reserve_answer config h f count)
decided config h f count low high = rw (pool.reserve_is config h f count low high) (go (stopped h) (may_reserve (numbers config h) f count) count refl)
  where
    go : (over allowed : Bool) (o : Option ℕ) → may_reserve (numbers config h) f o ≡ allowed
        → Decided (numbers config h) f o (if over then Stopped else by_reserve allowed o)
    go true allowed o q = Left refl (λ before. refl)
    go false false o q = Left refl (λ before. refl)
    go false true None q = Taken q refl (λ before. refl)
    go false true (Some n) q = Taken q refl (λ before. refl)

-- a reservation that is set goes in force, and another does not
set_in_force : (f : ℕ) (count : Option ℕ) (a : Answer) (p : Numbers) → sets a ≡ true → in_force (Reserve f count) (Some a) p ≡ with_reserved p f count
set_in_force f count (Reserved n) p q = refl
set_in_force f count Unreserved p q = refl
set_in_force f count a p q = absurd (true≢false (sym q))

left_in_force : (f : ℕ) (count : Option ℕ) (a : Answer) (p : Numbers) → sets a ≡ false → in_force (Reserve f count) (Some a) p ≡ p
left_in_force f count (Reserved n) p q = absurd (true≢false q)
left_in_force f count Unreserved p q = absurd (true≢false q)
left_in_force f count a p q = refl

set_in_order : (f : ℕ) (count : Option ℕ) (a : Answer) (p : Numbers) → IsAllowed p f count → IsInOrder p (Reserve f count) (Some a)
set_in_order f count (Reserved n) p k = k
set_in_order f count Unreserved p k = k
set_in_order f count a p k = tt

left_in_order : (f : ℕ) (count : Option ℕ) (a : Answer) (p : Numbers) → sets a ≡ false → IsInOrder p (Reserve f count) (Some a)
left_in_order f count (Reserved n) p q = absurd (true≢false q)
left_in_order f count Unreserved p q = absurd (true≢false q)
left_in_order f count a p q = tt

-- a Reserve reaches no environment
same_sites : (config : Config) (h : List Entry) (entry : Entry) (f : ℕ) (count : Option ℕ) → IsLegal config h
    → Follows config h entry → entry.call ≡ Reserve f count → sites config (entry ∷ h) ≡ sites config h
same_sites config h entry f count l w q = sites_nowhere config h entry l w (rw (w.place, q) refl)

pool_same : (config : Config) (h : List Entry) (entry : Entry) (f : ℕ) (count : Option ℕ) → IsLegal config h
    → Follows config h entry → entry.call ≡ Reserve f count
    → flown (sites config (entry ∷ h)) (numbers config h) ≡ numbers config h
pool_same config h entry f count l w q =
    ap (λ (ss : List Site). flown ss (numbers config h)) (same_sites config h entry f count l w q) ∙ sym (numbers_flown config h l)

-- what it is answered stands in its entry
reserve_answered : (config : Config) (h : List Entry) (entry : Entry) (f : ℕ) (count : Option ℕ)
    → Follows config h entry → entry.call ≡ Reserve f count
    → answer_in entry.answers (length h) ≡ Some (if stopped h then Stopped else reserve_answer config h f count)
reserve_answered config h entry f count w q = own_homeless config h entry w (rw (w.place, q) refl) ∙ ap (book_answer config h) q ∙ reserve_own config h f count

pub many_functions : (config : Config) (h : List Entry) → length (numbers config h).functions ≡ length config.functions
many_functions config h = length-map (function_numbers config) (usage config h) ∙ count_length 1 (length config.functions)

-- A call that is answered so is in order.
pub in_order : (config : Config) (h : List Entry) (entry : Entry) (own : Option Answer) → IsLegal config h
    → Follows config h entry → IsKnown config entry.call → own ≡ book_answer config h entry.call
    → IsInOrder (flown (sites config (entry ∷ h)) (numbers config h)) entry.call own
in_order config h entry own l w known is = go entry.call refl known is
  where
    reserve : (f : ℕ) (count : Option ℕ) (a : Answer) → 1 ≤ f → f ≤ length config.functions
        → entry.call ≡ Reserve f count → Decided (numbers config h) f count a
        → IsInOrder (flown (sites config (entry ∷ h)) (numbers config h)) (Reserve f count) (Some a)
    reserve f count a low high q (Taken allowed s r) =
        subst (λ (p : Numbers). IsInOrder p (Reserve f count) (Some a)) (sym (pool_same config h entry f count l w q))
        (set_in_order f count a (numbers config h) (low, rw (many_functions config h) high, allowed))
    reserve f count a low high q (Left s r) = left_in_order f count a (flown (sites config (entry ∷ h)) (numbers config h)) s

    go : (call : Call) → entry.call ≡ call → IsKnown config call → own ≡ book_answer config h call
        → IsInOrder (flown (sites config (entry ∷ h)) (numbers config h)) call own
    go (Reserve f count) q k r =
        rw (r, reserve_own config h f count)
        (reserve f count (if stopped h then Stopped else reserve_answer config h f count) k.0.0 k.0.1 q (decided config h f count k.0.0 k.0.1))
    go call q k r = none_in_order call own (flown (sites config (entry ∷ h)) (numbers config h)) refl

-- the reservations after an entry
same_reservation : (config : Config) (h : List Entry) (entry : Entry) → is_reserve entry.call ≡ false → (f : ℕ)
    → reservation config (entry ∷ h) f ≡ reservation config h f
unfolding reservation
same_reservation config h entry q f =
    ap
    (λ (b : Bool). if b then reserved_by (answer_in entry.answers (length h)) (reservation config h f) else reservation config h f)
    (reserves_none entry.call f q)

next_reservation : (config : Config) (h : List Entry) (entry : Entry) (g : ℕ) (count : Option ℕ) (a : Answer)
    → Follows config h entry → entry.call ≡ Reserve g count → answer_in entry.answers (length h) ≡ Some a → (f : ℕ)
    → reservation config (entry ∷ h) f ≡ (if g == f then reserved_by (Some a) (reservation config h f) else reservation config h f)
unfolding reservation
next_reservation config h entry g count a w q r f = rw (q, r) refl

either : (b : Bool) (x y : Option ℕ) → x ≡ y → (if b then x else y) ≡ y
either true x y e = e
either false x y e = refl

-- where a Reserve is taken
numbers_reserved : (config : Config) (h : List Entry) (entry : Entry) (g : ℕ) (count : Option ℕ)
    → IsLegal config (entry ∷ h) → 1 ≤ g → g ≤ length config.functions → sites config (entry ∷ h) ≡ sites config h
    → ((f : ℕ) → f ≢ g → reservation config (entry ∷ h) f ≡ reservation config h f)
    → reservation config (entry ∷ h) g ≡ count → with_reserved (numbers config h) g count ≡ numbers config (entry ∷ h)
numbers_reserved config h entry g count l low high still others this =
    let back : 1 + (g - 1) ≡ g = omega (arith, low) in
    ap (λ (us : List Usage). record (numbers config h) { functions = us })
    (ap (set (numbers config h).functions (g - 1)) (ap (λ (u : Usage). record u { reserved = count }) (pool.usage_is config h g low high) ∙ sym here ∙ ap (usage config (entry ∷ h)) (sym back))
    ∙ sym
    (one_changes (usage config (entry ∷ h)) (usage config h) 1 (length config.functions) (g - 1) (λ f ne. ap₂ (λ (r : Option ℕ) (n : ℕ). record (usage config h f) { reserved = r; in_flight = n }) (others f (λ q. ne (q ∙ sym back))) (flight f)) (omega (arith, low, high))))
  where
    flight : (f : ℕ) → in_flight config (entry ∷ h) f ≡ in_flight config h f
    flight f = in_flight_is config (entry ∷ h) f l ∙ ap (count_by (serves_function f)) still ∙ sym (in_flight_is config h f l.0)

    here : usage config (entry ∷ h) g ≡ record (usage config h g) { reserved = count }
    here = ap₂ (λ (r : Option ℕ) (n : ℕ). record (usage config h g) { reserved = r; in_flight = n }) this (flight g)

-- The pool after the call is the history's.
pub pool_after : (config : Config) (h : List Entry) (entry : Entry) (own : Option Answer) → IsLegal config h
    → Follows config h entry → IsKnown config entry.call → own ≡ book_answer config h entry.call
    → in_force entry.call own (flown (sites config (entry ∷ h)) (numbers config h)) ≡ numbers config (entry ∷ h)
pool_after config h entry own l w known is = go entry.call refl known is
  where
    reserve : (f : ℕ) (count : Option ℕ) (a : Answer) → 1 ≤ f → f ≤ length config.functions
        → entry.call ≡ Reserve f count → answer_in entry.answers (length h) ≡ Some a
        → Decided (numbers config h) f count a
        → in_force (Reserve f count) (Some a) (flown (sites config (entry ∷ h)) (numbers config h)) ≡ numbers config (entry ∷ h)
    reserve f count a low high q given (Taken allowed s r) =
        set_in_force f count a (flown (sites config (entry ∷ h)) (numbers config h)) s
        ∙ ap (λ (p : Numbers). with_reserved p f count) (pool_same config h entry f count l w q)
        ∙ numbers_reserved config h entry f count (l, w) low high (same_sites config h entry f count l w q)
        (λ g ne. next_reservation config h entry f count a w q given g ∙ ap (λ (b : Bool). if b then reserved_by (Some a) (reservation config h g) else reservation config h g) (eqb-other f g (λ e. ne (sym e))))
        (next_reservation config h entry f count a w q given f ∙ ap (λ (b : Bool). if b then reserved_by (Some a) (reservation config h f) else reservation config h f) (eqb-self f) ∙ r (reservation config h f))
    reserve f count a low high q given (Left s r) =
        left_in_force f count a (flown (sites config (entry ∷ h)) (numbers config h)) s
        ∙ numbers_next config h entry (l, w)
        (λ g. next_reservation config h entry f count a w q given g ∙ either (f == g) (reserved_by (Some a) (reservation config h g)) (reservation config h g) (r (reservation config h g)))

    other : (call : Call) → is_reserve call ≡ false → entry.call ≡ call
        → in_force call own (flown (sites config (entry ∷ h)) (numbers config h)) ≡ numbers config (entry ∷ h)
    other call s q =
        none_in_force call own (flown (sites config (entry ∷ h)) (numbers config h)) s
        ∙ numbers_next config h entry (l, w) (same_reservation config h entry (ap is_reserve q ∙ s))

    go : (call : Call) → entry.call ≡ call → IsKnown config call → own ≡ book_answer config h call
        → in_force call own (flown (sites config (entry ∷ h)) (numbers config h)) ≡ numbers config (entry ∷ h)
    go (Reserve f count) q k r =
        rw (r, reserve_own config h f count)
        (reserve f count (if stopped h then Stopped else reserve_answer config h f count) k.0.0 k.0.1 q (reserve_answered config h entry f count w q) (decided config h f count k.0.0 k.0.1))
    go call q k r = other call refl q
