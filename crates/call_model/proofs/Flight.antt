-- What a function has in flight is how many of its environments are Busy or bound.
use Rattle.std.proofs.Common.{◌≡◌, ℕ, zero, suc, ◌+◌, ◌<◌, ◌≤◌, Bool, true, false, cond, List, [], ◌∷◌, length, Option}
use Rattle.std.proofs.Common.{Some, None, sym, refl, ap, ap₂, ◌∙◌, arith, is_some, ◌&&◌, ◌==◌, if◌then◌else◌, count_by}
use Rattle.std.proofs.Common.{nat_le, true≢false}
use Rattle.std.proofs.lemmas.Bool.{eqb-true}
use Rattle.std.proofs.lemmas.Bool.Decides.{nat_tests}
use Rattle.std.specs.List.{find}
use Rattle.call_types.specs.declared.call.Call.{Call}
use Rattle.call_types.specs.declared.call.Call.TheVariants.{Invoke}
use Rattle.call_types.specs.declared.call.Entry.{Entry}
use Rattle.arn_ids.specs.declared.config.Config.{Config}
use Rattle.arn_ids.specs.Environments.{function_of, environments, owners, count_from}
use Rattle.call_model.specs.History.{with_tickets, is_invoke_of, call_of, place_of, or_else}
use Rattle.call_model.specs.Stand.{at_hand, is_number, is_idle}
use Rattle.call_model.specs.Life.{phase}
use Rattle.call_types.specs.Calls.{is_invoke}
use Rattle.call_model.specs.Limits.{is_charged_at, in_flight, place, place_for, lowest, is_free_starting}
use Rattle.call_model.specs.Limits.{is_free_closing, verdict, Verdict, AfterStop, Refuses, Admits, admitted_to}
use Rattle.call_model.specs.Answers.{first_answer, own_first, verdict_answer}
use Rattle.call_model.specs.Next.{IsLegal, Follows}
use Rattle.call_model.proofs.OwnTickets.{placed_function, admits_place}
use Rattle.call_model.proofs.Charges.{IsIn, entries_in, count_same, count_split, count_none, charged_count}
use Rattle.call_model.proofs.Basics.{count_cons, number_some, some-none, and_false, eqb-self}

find_between : (p : ℕ → Bool) (a n e : ℕ) → find p (count_from a n) ≡ Some e → (a ≤ e) × (e < a + n)
find_between p a zero e q = absurd (some-none (sym q))
find_between p a (suc n) e q = go (p a) (find_between p (suc a) n e) q
  where
    go : (b : Bool) → (find p (count_from (suc a) n) ≡ Some e → (suc a ≤ e) × (e < suc a + n))
        → (if b then Some a else find p (count_from (suc a) n)) ≡ Some e → (a ≤ e) × (e < a + suc n)
    go true ih r = let same : a ≡ e = cc in (omega (arith, same), omega (arith, same))
    go false ih r = let k : (suc a ≤ e) × (e < suc a + n) = ih r in (omega (arith, k.0), omega (arith, k.1))

-- an Invoke is placed in an environment of the configuration
pub place_between : (config : Config) (h : List Entry) (f e : ℕ) → place config h f ≡ Some e → (1 ≤ e) × (e < 1 + length (owners config))
unfolding place
place_between config h f e q = go (lowest config h f is_idle) refl (lowest config h f is_free_starting) refl q
  where
    go : (a : Option ℕ) → lowest config h f is_idle ≡ a → (b : Option ℕ) → lowest config h f is_free_starting ≡ b
        → or_else a (or_else b (lowest config h f is_free_closing)) ≡ Some e
        → (1 ≤ e) × (e < 1 + length (owners config))
    go (Some a) p b r k = find_between _ 1 (length (owners config)) e (p ∙ k)
    go None p (Some b) r k = find_between _ 1 (length (owners config)) e (r ∙ k)
    go None p None r k = find_between _ 1 (length (owners config)) e k

pub place_for_between : (config : Config) (h : List Entry) (call : Call) (e : ℕ) → place_for config h call ≡ Some e → (1 ≤ e) × (e < 1 + length (owners config))
place_for_between config h (Invoke f qualified trace body) e q = place_between config h f e (admits_place config h f e q)
place_for_between config h call e q = absurd (some-none (sym q))

pub place_for_of : (config : Config) (h : List Entry) (call : Call) (f e : ℕ) → place_for config h call ≡ Some e
    → is_invoke_of f call ≡ (function_of config e == f)
place_for_of config h (Invoke g qualified trace body) f e q = placed_function config h (Invoke g qualified trace body) f e q
place_for_of config h call f e q = absurd (some-none (sym q))

-- what is placed in e is an Invoke of its function, and e is an environment of the configuration
pub placed_of : (config : Config) (h : List Entry) (t e f : ℕ) → IsLegal config h → place_of h t ≡ Some e
    → is_invoke_of f (call_of h t) ≡ (function_of config e == f)
placed_of config [] t e f l q = absurd (some-none (sym q))
placed_of config (entry ∷ h) t e f l q = go (t == length h) (placed_of config h t e f l.0) q
  where
    go : (b : Bool) → (place_of h t ≡ Some e → is_invoke_of f (call_of h t) ≡ (function_of config e == f))
        → (if b then entry.place else place_of h t) ≡ Some e
        → is_invoke_of f (if b then entry.call else call_of h t) ≡ (function_of config e == f)
    go true ih r = place_for_of config h entry.call f e (sym (l.1.place) ∙ r)
    go false ih r = ih r

pub placed_between : (config : Config) (h : List Entry) (t e : ℕ) → IsLegal config h → place_of h t ≡ Some e → (1 ≤ e) × (e < 1 + length (owners config))
placed_between config [] t e l q = absurd (some-none (sym q))
placed_between config (entry ∷ h) t e l q = go (t == length h) (placed_between config h t e l.0) q
  where
    go : (b : Bool) → (place_of h t ≡ Some e → (1 ≤ e) × (e < 1 + length (owners config)))
        → (if b then entry.place else place_of h t) ≡ Some e → (1 ≤ e) × (e < 1 + length (owners config))
    go true ih r = place_for_between config h entry.call e (sym (l.1.place) ∙ r)
    go false ih r = ih r

-- what is placed is an Invoke
pub placed_invoke : (config : Config) (h : List Entry) (call : Call) (d : ℕ) → place_for config h call ≡ Some d → is_invoke call ≡ true
placed_invoke config h (Invoke f qualified trace body) d q = refl
placed_invoke config h call d q = absurd (some-none (sym q))

admitted : (v : Verdict) (e : ℕ) → admitted_to v ≡ Some e → verdict_answer v ≡ None
admitted (Admits d) e q = refl
admitted AfterStop e q = absurd (some-none (sym q))
admitted (Refuses r) e q = absurd (some-none (sym q))

-- a placed Invoke isn't answered at once
pub placed_silent : (config : Config) (h : List Entry) (entry : Entry) (e : ℕ) → Follows config h entry
    → is_invoke entry.call ≡ true → is_number entry.place e ≡ true
    → first_answer config h entry.moment entry.call (length h) ≡ None
unfolding first_answer own_first
placed_silent config h entry e w i c = rw (eqb-self (length h)) (go entry.call i (sym (w.place)))
  where
    some : (o : Option ℕ) → is_number o e ≡ true → o ≡ Some e
    some None q = absurd (true≢false (sym q))
    some (Some d) q = ap (λ (n : ℕ). Some n) (eqb-true d e q)

    go : (call : Call) → is_invoke call ≡ true → place_for config h call ≡ entry.place → own_first config h call ≡ None
    go (Invoke f qualified trace body) j q = admitted (verdict config h f) e (q ∙ some entry.place c)
    go call j q = absurd (true≢false (sym j))

abbrev at_least : ℕ → Option ℕ → Bool
at_least a None = false
at_least a (Some e) = nat_le a e

-- whether an environment of f has an invocation at hand
abbrev pub serves : Config → List Entry → ℕ → ℕ → Bool
serves config h f e = (function_of config e == f) && is_some (at_hand (phase config h e))

-- a charged invocation of f
abbrev in_f : Config → List Entry → ℕ → ℕ × Entry → Bool
in_f config h f x = is_invoke_of f x.1.call && is_charged_at config h x.0 x.1.place

-- those of one environment
here_count : (config : Config) (h : List Entry) (f e : ℕ) → IsLegal config h
    → count_by (λ x. is_number x.1.place e && in_f config h f x) (with_tickets h) ≡ cond (serves config h f e) 1 0
here_count config h f e l =
    count_same h (λ x. is_number x.1.place e && in_f config h f x) (λ x. (function_of config e == f) && (is_number x.1.place e && is_charged_at config h x.0 x.1.place)) each (with_tickets h) (entries_in h)
    ∙ go (function_of config e == f)
  where
    each : (x : ℕ × Entry) → IsIn h x
        → (is_number x.1.place e && in_f config h f x) ≡ ((function_of config e == f) && (is_number x.1.place e && is_charged_at config h x.0 x.1.place))
    each x i = by_place (is_number x.1.place e) refl
      where
        none : (b : Bool) → false ≡ (b && false)
        none true = refl
        none false = refl

        by_place : (b : Bool) → is_number x.1.place e ≡ b
            → (b && in_f config h f x) ≡ ((function_of config e == f) && (b && is_charged_at config h x.0 x.1.place))
        by_place false q = none (function_of config e == f)
        by_place true q =
            ap (λ (b : Bool). b && is_charged_at config h x.0 x.1.place)
            (ap (is_invoke_of f) (sym i.1) ∙ placed_of config h x.0 e f l (i.2 ∙ number_some x.1.place e q))

    go : (b : Bool)
        → count_by (λ x. b && (is_number x.1.place e && is_charged_at config h x.0 x.1.place)) (with_tickets h) ≡ cond (b && is_some (at_hand (phase config h e))) 1 0
    go true = charged_count config h e l
    go false = count_none (with_tickets h)

-- those of the environments from a on
from_count : (config : Config) (h : List Entry) (f n a : ℕ) → IsLegal config h → a + n ≡ 1 + length (owners config)
    → count_by (λ x. at_least a x.1.place && in_f config h f x) (with_tickets h) ≡ count_by (serves config h f) (count_from a n)
from_count config h f zero a l q =
    count_same h (λ x. at_least a x.1.place && in_f config h f x) (λ x. false) (λ x i. none x i x.1.place refl) (with_tickets h) (entries_in h)
    ∙ count_none (with_tickets h)
  where
    not_below : (e : ℕ) → e < a → nat_le a e ≡ false
    not_below e k = grind (arith, nat_tests, k)

    none : (x : ℕ × Entry) → IsIn h x → (o : Option ℕ) → x.1.place ≡ o → (at_least a o && in_f config h f x) ≡ false
    none x i None r = refl
    none x i (Some e) r = ap (λ (b : Bool). b && in_f config h f x) (not_below e (omega (arith, q, (placed_between config h x.0 e l (i.2 ∙ r)).1)))
from_count config h f (suc n) a l q =
    count_split h (λ x. at_least a x.1.place && in_f config h f x) (λ x. is_number x.1.place a && in_f config h f x)
    (λ x. at_least (suc a) x.1.place && in_f config h f x) (λ x i. each x.1.place (in_f config h f x))
    (with_tickets h) (entries_in h)
    ∙ ap₂ (λ (m k : ℕ). m + k) (here_count config h f a l) (from_count config h f n (suc a) l (omega (arith, q)))
    ∙ sym (count_cons (serves config h f) a (count_from (suc a) n))
  where
    at : (e : ℕ) (b : Bool) → cond (nat_le a e && b) 1 0 ≡ cond ((e == a) && b) 1 0 + cond (nat_le (suc a) e && b) 1 0
    at e true = grind (arith, nat_tests)
    at e false = grind (arith, nat_tests)

    each : (o : Option ℕ) (b : Bool) → cond (at_least a o && b) 1 0 ≡ cond (is_number o a && b) 1 0 + cond (at_least (suc a) o && b) 1 0
    each None b = refl
    each (Some e) b = at e b

-- What a function has in flight is how many of its environments are Busy or bound.
pub flight : (config : Config) (h : List Entry) (f : ℕ) → IsLegal config h → in_flight config h f ≡ count_by (serves config h f) (environments config)
unfolding in_flight
flight config h f l =
    count_same h (in_f config h f) (λ x. at_least 1 x.1.place && in_f config h f x) (λ x i. each x i x.1.place refl) (with_tickets h) (entries_in h)
    ∙ from_count config h f (length (owners config)) 1 l refl
  where
    some_le : (e : ℕ) → 1 ≤ e → nat_le 1 e ≡ true
    some_le e k = grind (arith, nat_tests, k)

    each : (x : ℕ × Entry) → IsIn h x → (o : Option ℕ) → x.1.place ≡ o → in_f config h f x ≡ (at_least 1 o && in_f config h f x)
    each x i None r = rw r (and_false (is_invoke_of f x.1.call))
    each x i (Some e) r = sym (ap (λ (b : Bool). b && in_f config h f x) (some_le e ((placed_between config h x.0 e l (i.2 ∙ r)).0)))
