-- The tickets of a function, their answers and what is pending of them are those that it would have alone.
use Rattle.std.proofs.Common.{◌≡◌, ℕ, suc, ◌<◌, Bool, true, false, eqb, List, [], ◌∷◌, length, Option, Some, None, sym}
use Rattle.std.proofs.Common.{refl, ap, ◌∙◌, inl, inr, arith, ◌≢◌, ◌||◌, ◌==◌, filter, true≢false, if◌then◌else◌, ◌≤◌}
use Rattle.std.proofs.Common.{ap₂, subst, ◌&&◌, nat_le}
use Rattle.std.proofs.lemmas.Bool.Decides.{eqb_tells, nat_tests}
use Rattle.call_types.specs.declared.answer.Answer.{Answer}
use Rattle.call_types.specs.declared.answer.Phase.{Phase}
use Rattle.call_types.specs.declared.call.Call.{Call}
use Rattle.call_types.specs.declared.call.Entry.{Entry}
use Rattle.arn_ids.specs.declared.config.Config.{Config}
use Rattle.arn_ids.specs.Environments.{function_of, environments}
use Rattle.call_model.specs.History.{answer_in, call_of, answer_of, pending, place_of, poll_env, stopped, or_else}
use Rattle.call_types.specs.Calls.{env_of}
use Rattle.call_model.specs.Life.{phase, concerns, names}
use Rattle.call_model.specs.Stand.{is_number, is_idle}
use Rattle.call_model.specs.Answers.{answers, home}
use Rattle.call_model.specs.Next.{Follows, IsLegal}
use Rattle.call_model.specs.Own.{own, own_entry, own_ticket, is_own, of_function}
use Rattle.call_model.proofs.Pairs.{eqb-other}
use Rattle.call_model.proofs.Once.{fresh, answers_past}
use Rattle.call_model.proofs.Basics.{and_left, number_some, some-none}
use Rattle.call_model.proofs.Elsewhere.{elsewhere, nowhere}
use Rattle.std.proofs.lemmas.Bool.{eqb-true}
use Rattle.std.specs.List.{find}
use Rattle.call_types.specs.declared.call.Call.TheVariants.{Invoke, RuntimeNext, Response, ResponseTooLarge, Failure}
use Rattle.call_types.specs.declared.call.Call.TheVariants.{InitFailure, Register, ExtNext, ExtInitFailure}
use Rattle.call_types.specs.declared.call.Call.TheVariants.{ExtExitFailure, Tick, Withdraw, Spindown, Stop, Expire}
use Rattle.call_types.specs.declared.call.Call.TheVariants.{Reserve}
use Rattle.call_types.specs.declared.answer.Throttle.{Throttle}
use Rattle.call_types.specs.declared.answer.Throttle.TheVariants.{Function as ByFunction, Account as ByAccount}
use Rattle.call_model.specs.Limits.{place_for, place, lowest, is_free_starting, is_free_closing, verdict, AfterStop}
use Rattle.call_model.specs.Limits.{Refuses, admitted_to, by_limits, where_placed, reservation, in_flight, remainder}
use Rattle.call_model.specs.Limits.{unreserved_in_flight}
use Rattle.call_model.proofs.PhaseStep.{filter_none}

pub own_length : (config : Config) (h : List Entry) (f : ℕ) → length (own config h f) ≡ length h
unfolding own
own_length config [] f = refl
own_length config (entry ∷ h) f = ap suc (own_length config h f)

-- a call of the function stands in its own history as it was
pub own_call : (config : Config) (h : List Entry) (f t : ℕ) → own_ticket config h f t ≡ true → call_of (own config h f) t ≡ call_of h t
unfolding own
own_call config [] f t k = absurd (true≢false (sym k))
own_call config (entry ∷ h) f t k = rw (own_length config h f) (go (t == length h) (own_call config h f t) k)
  where
    kept : (b : Bool) → b ≡ true → (own_entry b config h f entry).call ≡ entry.call
    kept true q = refl
    kept false q = absurd (true≢false (sym q))

    go : (b : Bool) → (own_ticket config h f t ≡ true → call_of (own config h f) t ≡ call_of h t)
        → (if b then is_own config h f entry.call else own_ticket config h f t) ≡ true
        → (if b then (own_entry (is_own config h f entry.call) config h f entry).call else call_of (own config h f) t) ≡ (if b then entry.call else call_of h t)
    go true ih q = kept (is_own config h f entry.call) q
    go false ih q = ih q

-- what a list of answers has for a ticket of the function, the others' left out
pub filtered : (p : ℕ → Bool) (pairs : List (ℕ × Answer)) (t : ℕ) → p t ≡ true → answer_in (filter (λ a. p a.0) pairs) t ≡ answer_in pairs t
filtered p [] t k = refl
filtered p (a ∷ rest) t k =
    elim (eqb_tells a.0 t) [
      | inl q ↦ rw (ap p q.1 ∙ k, q.0) refl
      | inr q ↦ rw q.0 (go q.0 (p a.0) (filtered p rest t k))
    ]
  where
    go : eqb a.0 t ≡ false → (b : Bool) → answer_in (filter (λ c. p c.0) rest) t ≡ answer_in rest t
        → answer_in (if b then a ∷ filter (λ c. p c.0) rest else filter (λ c. p c.0) rest) t ≡ answer_in rest t
    go q true ih = rw q ih
    go q false ih = ih

-- the environment of a ticket of the function is one of its own
abbrev pub IsHome : Config → ℕ → Option ℕ → Type 0
IsHome config f o = (e : ℕ) → o ≡ Some e → function_of config e ≡ f

-- an entry of others concerns no environment of the function
abbrev pub IsForeign : Config → List Entry → ℕ → Entry → Type 0
IsForeign config h f entry = (e : ℕ) → function_of config e ≡ f → concerns h e entry ≡ false

-- such an entry answers no ticket of the function
pub foreign_silent : (config : Config) (h : List Entry) (entry : Entry) (f t : ℕ) → Follows config h entry
    → t < length h → IsHome config f (home h t) → IsForeign config h f entry → answer_in entry.answers t ≡ None
foreign_silent config h entry f t w lt at foreign = rw (w.answers) (go (home h t) refl)
  where
    go : (o : Option ℕ) → home h t ≡ o → answer_in (answers config h entry.moment entry.call) t ≡ None
    go None q = nowhere config h entry.moment entry.call t lt q
    go (Some e) q =
        elsewhere config h entry.moment entry.call t e lt q (ap (λ (o : Option ℕ). is_number o e || names h e entry.call) (sym (w.place)) ∙ foreign e (at e q))

pub find_passes : (p : ℕ → Bool) (xs : List ℕ) (e : ℕ) → find p xs ≡ Some e → p e ≡ true
find_passes p [] e q = absurd (some-none (sym q))
find_passes p (x ∷ xs) e q = go (p x) refl (find_passes p xs e) q
  where
    go : (b : Bool) → p x ≡ b → (find p xs ≡ Some e → p e ≡ true) → (if b then Some x else find p xs) ≡ Some e → p e ≡ true
    go true k ih r = let same : x ≡ e = cc in ap p (sym same) ∙ k
    go false k ih r = ih r

lowest_function : (config : Config) (h : List Entry) (f : ℕ) (passes : Phase → Bool) (e : ℕ) → lowest config h f passes ≡ Some e → function_of config e ≡ f
lowest_function config h f passes e q =
    eqb-true (function_of config e) f
    (and_left (function_of config e == f) (passes (phase config h e)) (find_passes (λ d. (function_of config d == f) && passes (phase config h d)) (environments config) e q))

-- an Invoke is placed in an environment of its function
place_function : (config : Config) (h : List Entry) (f e : ℕ) → place config h f ≡ Some e → function_of config e ≡ f
unfolding place
place_function config h f e q = go (lowest config h f is_idle) refl (lowest config h f is_free_starting) refl q
  where
    go : (a : Option ℕ) → lowest config h f is_idle ≡ a → (b : Option ℕ) → lowest config h f is_free_starting ≡ b
        → or_else a (or_else b (lowest config h f is_free_closing)) ≡ Some e → function_of config e ≡ f
    go (Some a) p b r k = lowest_function config h f is_idle e (p ∙ k)
    go None p (Some b) r k = lowest_function config h f is_free_starting e (r ∙ k)
    go None p None r k = lowest_function config h f is_free_closing e k

pub admits_place : (config : Config) (h : List Entry) (f e : ℕ) → admitted_to (verdict config h f) ≡ Some e → place config h f ≡ Some e
unfolding verdict
admits_place config h f e q = go (stopped h) (reservation config h f) q
  where
    placed : (o : Option ℕ) → admitted_to (where_placed o) ≡ Some e → o ≡ Some e
    placed None r = r
    placed (Some d) r = r

    tested : (b : Bool) (t : Throttle) → admitted_to (if b then Refuses t else where_placed (place config h f)) ≡ Some e → place config h f ≡ Some e
    tested true t r = absurd (some-none (sym r))
    tested false t r = placed (place config h f) r

    go : (b : Bool) (o : Option ℕ) → admitted_to (if b then AfterStop else by_limits config h f o) ≡ Some e → place config h f ≡ Some e
    go true o r = absurd (some-none (sym r))
    go false (Some limit) r = tested (nat_le limit (in_flight config h f)) ByFunction r
    go false None r = tested (nat_le (remainder config h) (unreserved_in_flight config h)) ByAccount r

admits_function : (config : Config) (h : List Entry) (f e : ℕ) → admitted_to (verdict config h f) ≡ Some e → function_of config e ≡ f
admits_function config h f e q = place_function config h f e (admits_place config h f e q)

-- what a legal entry concerns: its Invoke's environment is one of the Invoke's function
pub placed_function : (config : Config) (h : List Entry) (call : Call) (f e : ℕ) → place_for config h call ≡ Some e
    → is_own config h f call ≡ (function_of config e == f)
placed_function config h (Invoke g qualified trace body) f e q = ap (λ (n : ℕ). n == f) (sym (admits_function config h g e q))
placed_function config h call f e q = absurd (some-none (sym q))

-- an entry of others concerns no environment of the function
pub foreign : (config : Config) (h : List Entry) (entry : Entry) (f : ℕ) → Follows config h entry
    → is_own config h f entry.call ≡ false → IsForeign config h f entry
foreign config h entry f w k e at =
    no_either (is_number entry.place e) (names h e entry.call) (not_placed (is_number entry.place e) refl) (not_named entry.call k)
  where
    no_either : (a b : Bool) → a ≡ false → b ≡ false → (a || b) ≡ false
    no_either true b p q = p
    no_either false b p q = q

    is_theirs : (function_of config e == f) ≡ true
    is_theirs = let q : function_of config e ≡ f = at in grind (arith, nat_tests)

    not_placed : (b : Bool) → is_number entry.place e ≡ b → is_number entry.place e ≡ false
    not_placed false p = p
    not_placed true p = absurd (true≢false (sym is_theirs ∙ sym (placed_function config h entry.call f e (sym (w.place) ∙ number_some entry.place e p)) ∙ k))

    no_env : (o : Option ℕ) → of_function config f o ≡ false → is_number o e ≡ false
    no_env None p = refl
    no_env (Some d) p = eqb-other d e (λ same. true≢false (sym is_theirs ∙ ap (λ (n : ℕ). function_of config n == f) (sym same) ∙ p))

    not_named : (call : Call) → is_own config h f call ≡ false → names h e call ≡ false
    not_named Stop p = absurd (true≢false p)
    not_named (Withdraw t) p = no_env (poll_env (call_of h t)) p
    not_named (Invoke g qualified trace body) p = refl
    not_named Tick p = refl
    not_named (Reserve g count) p = refl
    not_named (RuntimeNext d) p = no_env (Some d) p
    not_named (Response d id body) p = no_env (Some d) p
    not_named (ResponseTooLarge d id) p = no_env (Some d) p
    not_named (Failure d id body) p = no_env (Some d) p
    not_named (InitFailure d body) p = no_env (Some d) p
    not_named (Register d name invoke shutdown account) p = no_env (Some d) p
    not_named (ExtNext d x) p = no_env (Some d) p
    not_named (ExtInitFailure d x body) p = no_env (Some d) p
    not_named (ExtExitFailure d x body) p = no_env (Some d) p
    not_named (Spindown d) p = no_env (Some d) p
    not_named (Expire d) p = no_env (Some d) p

-- the environment of a ticket of the function is one of its own
pub own_home : (config : Config) (h : List Entry) (f t : ℕ) → IsLegal config h → own_ticket config h f t ≡ true → IsHome config f (home h t)
own_home config [] f t l k = absurd (true≢false (sym k))
own_home config (entry ∷ h) f t l k = go (t == length h) (own_home config h f t l.0) k
  where
    by_env : (o : Option ℕ) → of_function config f o ≡ true → IsHome config f o
    by_env o p e q = eqb-true (function_of config e) f (ap (of_function config f) (sym q) ∙ p)

    no_home : IsHome config f None
    no_home e q = absurd (some-none (sym q))

    by_call : (call : Call) → is_own config h f call ≡ true → IsHome config f (or_else (place_for config h call) (env_of call))
    by_call (Invoke g qualified trace body) p = at_place (place_for config h (Invoke g qualified trace body)) refl
      where
        at_place : (o : Option ℕ) → place_for config h (Invoke g qualified trace body) ≡ o → IsHome config f (or_else o None)
        at_place None q = no_home
        at_place (Some d) q = λ e r. eqb-true (function_of config e) f (sym (placed_function config h (Invoke g qualified trace body) f e (q ∙ r)) ∙ p)
    by_call Stop p = no_home
    by_call Tick p = no_home
    by_call (Withdraw u) p = no_home
    by_call (Reserve g count) p = no_home
    by_call (RuntimeNext d) p = by_env (Some d) p
    by_call (Response d id body) p = by_env (Some d) p
    by_call (ResponseTooLarge d id) p = by_env (Some d) p
    by_call (Failure d id body) p = by_env (Some d) p
    by_call (InitFailure d body) p = by_env (Some d) p
    by_call (Register d name invoke shutdown account) p = by_env (Some d) p
    by_call (ExtNext d x) p = by_env (Some d) p
    by_call (ExtInitFailure d x body) p = by_env (Some d) p
    by_call (ExtExitFailure d x body) p = by_env (Some d) p
    by_call (Spindown d) p = by_env (Some d) p
    by_call (Expire d) p = by_env (Some d) p

    go : (b : Bool) → (own_ticket config h f t ≡ true → IsHome config f (home h t))
        → (if b then is_own config h f entry.call else own_ticket config h f t) ≡ true
        → IsHome config f (or_else (if b then entry.place else place_of h t) (env_of (if b then entry.call else call_of h t)))
    go true ih p = subst (λ (o : Option ℕ). IsHome config f (or_else o (env_of entry.call))) (sym (l.1.place)) (by_call entry.call p)
    go false ih p = ih p

-- no ticket of the future is answered in the function's own history
pub own_past : (config : Config) (h : List Entry) (f t : ℕ) → IsLegal config h → length h ≤ t → answer_of (own config h f) t ≡ None
unfolding own
own_past config [] f t l le = refl
own_past config (entry ∷ h) f t l le = rw (own_past config h f t l.0 (omega (arith, le))) (go (is_own config h f entry.call))
  where
    none : answer_in entry.answers t ≡ None
    none = rw (l.1.answers) (answers_past config h entry.moment entry.call t (omega (arith, le)))

    right : (a : Option Answer) → a ≡ None → or_else a None ≡ None
    right None q = refl
    right (Some a) q = q

    go : (b : Bool) → or_else (answer_in (own_entry b config h f entry).answers t) None ≡ None
    go true = right _ (filter_none (λ a. own_ticket config (entry ∷ h) f a.0) entry.answers t none)
    go false = rw (eqb-other (length h) t (omega (arith, le))) refl

pub own_old : (config : Config) (h : List Entry) (f t : ℕ) → own_ticket config h f t ≡ true → t < length h
own_old config [] f t k = absurd (true≢false (sym k))
own_old config (entry ∷ h) f t k = go (t == length h) refl (own_old config h f t) k
  where
    go : (b : Bool) → (t == length h) ≡ b → (own_ticket config h f t ≡ true → t < length h)
        → (if b then is_own config h f entry.call else own_ticket config h f t) ≡ true → t < suc (length h)
    go true q ih p = let same : t ≡ length h = eqb-true t (length h) q in omega (arith, same)
    go false q ih p = omega (arith, ih p)

-- the function's tickets have the same answers in its own history
pub own_answer_of : (config : Config) (h : List Entry) (f t : ℕ) → IsLegal config h → own_ticket config h f t ≡ true
    → answer_of (own config h f) t ≡ answer_of h t
unfolding own
own_answer_of config [] f t l k = refl
own_answer_of config (entry ∷ h) f t l k = go (is_own config h f entry.call) refl (own_answer_of config h f t l.0)
  where
    rest : (b : Bool) → (t == length h) ≡ b
        → (own_ticket config h f t ≡ true → answer_of (own config h f) t ≡ answer_of h t)
        → answer_of (own config h f) t ≡ answer_of h t
    rest true q ih =
        let same : t ≡ length h = eqb-true t (length h) q in own_past config h f t l.0 (omega (arith, same)) ∙ sym (fresh config h t l.0 (omega (arith, same)))
    rest false q ih = ih (rw q at k)

    not_own : (b : Bool) → (t == length h) ≡ b → is_own config h f entry.call ≡ false → (t ≢ length h) × (own_ticket config h f t ≡ true)
    not_own true q w = absurd (true≢false (sym (rw q at k) ∙ w))
    not_own false q w = (eqb-false q, rw q at k)
      where
        eqb-false : (t == length h) ≡ false → t ≢ length h
        eqb-false p same = grind (arith, nat_tests, p, same)

    go : (b : Bool) → is_own config h f entry.call ≡ b
        → (own_ticket config h f t ≡ true → answer_of (own config h f) t ≡ answer_of h t)
        → or_else (answer_in (own_entry b config h f entry).answers t) (answer_of (own config h f) t) ≡ or_else (answer_in entry.answers t) (answer_of h t)
    go true w ih = ap₂ or_else (filtered (own_ticket config (entry ∷ h) f) entry.answers t k) (rest (t == length h) refl ih)
    go false w ih =
        let n : (t ≢ length h) × (own_ticket config h f t ≡ true) = not_own (t == length h) refl w in
        rw
        (eqb-other (length h) t (λ same. n.0 (sym same)), ih n.1, foreign_silent config h entry f t l.1 (own_old config h f t n.1) (own_home config h f t l.0 n.1) (foreign config h entry f l.1 w)) refl

-- A ticket of the function is pending alone where it is pending.
pub own_pending : (config : Config) (h : List Entry) (f t : ℕ) → IsLegal config h → own_ticket config h f t ≡ true → pending (own config h f) t ≡ pending h t
own_pending config h f t l k = rw (own_call config h f t k, own_answer_of config h f t l k) refl
