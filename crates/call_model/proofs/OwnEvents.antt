-- The function's own history counts the same events and registrations at an environment of the function.
use Rattle.std.proofs.Common.{◌≡◌, ℕ, true, false, List, Some, sym, refl, ap, ◌∙◌, arith, ◌≢◌, ◌==◌, true≢false, ◌<◌}
use Rattle.std.proofs.Common.{[], ◌∷◌, length, inl, inr, ◌+◌, Bool, cond, ◌&&◌, filter, if◌then◌else◌, Option, None}
use Rattle.std.proofs.Common.{ap₂}
use Rattle.std.proofs.lemmas.Bool.Decides.{nat_tests, eqb_tells}
use Rattle.call_types.specs.declared.answer.Answer.{Answer}
use Rattle.call_types.specs.declared.call.Call.{Call}
use Rattle.call_types.specs.declared.call.Call.TheVariants.{Invoke, RuntimeNext, Response, ResponseTooLarge, Failure}
use Rattle.call_types.specs.declared.call.Call.TheVariants.{InitFailure, Register, ExtNext, ExtInitFailure}
use Rattle.call_types.specs.declared.call.Call.TheVariants.{ExtExitFailure, Tick, Withdraw, Spindown, Stop, Expire}
use Rattle.call_types.specs.declared.call.Call.TheVariants.{Reserve}
use Rattle.call_types.specs.declared.call.Entry.{Entry}
use Rattle.arn_ids.specs.declared.config.Config.{Config}
use Rattle.arn_ids.specs.Environments.{function_of}
use Rattle.call_model.specs.History.{call_of, answer_in, with_tickets}
use Rattle.call_types.specs.Calls.{env_of}
use Rattle.call_model.specs.Stand.{is_number}
use Rattle.call_model.specs.Life.{events_in, is_event, registrations, events}
use Rattle.call_model.specs.Next.{IsLegal}
use Rattle.call_model.specs.Own.{is_own, own_ticket, own, own_entry}
use Rattle.call_model.proofs.Pairs.{eqb-other}
use Rattle.call_model.proofs.OwnTickets.{own_call, own_length, filtered}
use Rattle.call_model.proofs.Basics.{count_cons, and_false, eqb-self, some-none}
use Rattle.call_model.specs.Table.{is_registered}
use Rattle.call_model.proofs.TicketsWithin.{IsWithin, legal_fit}
use Rattle.call_model.proofs.OwnHistory.{own_cons, others_silent}

-- a call of others names no environment of the function
pub env_foreign : (config : Config) (h : List Entry) (f e : ℕ) (call : Call) → function_of config e ≡ f
    → is_own config h f call ≡ false → is_number (env_of call) e ≡ false
env_foreign config h f e call at q = go call q
  where
    is_theirs : (function_of config e == f) ≡ true
    is_theirs = let q : function_of config e ≡ f = at in grind (arith, nat_tests)

    no_env : (d : ℕ) → (function_of config d == f) ≡ false → is_number (Some d) e ≡ false
    no_env d p = eqb-other d e (λ same. true≢false (sym is_theirs ∙ ap (λ (n : ℕ). function_of config n == f) (sym same) ∙ p))

    go : (call : Call) → is_own config h f call ≡ false → is_number (env_of call) e ≡ false
    go Stop p = refl
    go (Withdraw t) p = refl
    go (Invoke g qualified trace body) p = refl
    go Tick p = refl
    go (Reserve g count) p = refl
    go (RuntimeNext d) p = no_env d p
    go (Response d id body) p = no_env d p
    go (ResponseTooLarge d id) p = no_env d p
    go (Failure d id body) p = no_env d p
    go (InitFailure d body) p = no_env d p
    go (Register d name invoke shutdown account) p = no_env d p
    go (ExtNext d x) p = no_env d p
    go (ExtInitFailure d x body) p = no_env d p
    go (ExtExitFailure d x body) p = no_env d p
    go (Spindown d) p = no_env d p
    go (Expire d) p = no_env d p

ticket_foreign : (config : Config) (h : List Entry) (f e t : ℕ) → function_of config e ≡ f → t < length h
    → own_ticket config h f t ≡ false → is_number (env_of (call_of h t)) e ≡ false
ticket_foreign config [] f e t at lt q = absurd (omega (arith, lt))
ticket_foreign config (entry ∷ h) f e t at lt q = elim (eqb_tells t (length h)) [
  | inl p ↦ rw p.0 (env_foreign config h f e entry.call at (rw p.0 at q))
  | inr p ↦ rw p.0 (ticket_foreign config h f e t at (let ne : t ≢ length h = p.1 in omega (arith, lt)) (rw p.0 at q))
]

-- how many events the pairs tell at an environment of the function
pub own_events_in : (config : Config) (h : List Entry) (f e n : ℕ) → function_of config e ≡ f → n < length h → (pairs : List (ℕ × Answer)) → IsWithin n pairs
    → events_in (own config h f) e (filter (λ a. own_ticket config h f a.0) pairs) ≡ events_in h e pairs
own_events_in config h f e n at lt [] w = refl
own_events_in config h f e n at lt (a ∷ rest) w =
    go (own_ticket config h f a.0) refl (own_events_in config h f e n at lt rest w.1) ∙ sym (count_cons (tells h) a rest)
  where
    tells : List Entry → ℕ × Answer → Bool
    tells k c = is_event c.1 && is_number (env_of (call_of k c.0)) e

    kept : List (ℕ × Answer)
    kept = filter (λ c. own_ticket config h f c.0) rest

    go : (b : Bool) → own_ticket config h f a.0 ≡ b → events_in (own config h f) e kept ≡ events_in h e rest
        → events_in (own config h f) e (if b then a ∷ kept else kept) ≡ cond (tells h a) 1 0 + events_in h e rest
    go true q ih = count_cons (tells (own config h f)) a kept ∙ (λ i. cond (is_event a.1 && is_number (env_of (own_call config h f a.0 q i)) e) 1 0 + ih i)
    go false q ih =
        ih ∙ omega arith
        ∙ sym (ap (λ (b : Bool). cond b 1 0 + events_in h e rest) (ap (λ (b : Bool). is_event a.1 && b) (ticket_foreign config h f e a.0 at (omega (arith, w.0, lt)) q) ∙ and_false (is_event a.1)))

-- how many extensions were registered
pub own_registrations : (config : Config) (h : List Entry) (f e : ℕ) → function_of config e ≡ f → registrations (own config h f) e ≡ registrations h e
unfolding own
own_registrations config [] f e at = refl
own_registrations config (entry ∷ h) f e at =
    count_cons registers (length (own config h f), own_entry (is_own config h f entry.call) config h f entry) (with_tickets (own config h f))
    ∙ (λ i. cond (go (is_own config h f entry.call) refl i) 1 0 + own_registrations config h f e at i)
    ∙ sym (count_cons registers (length h, entry) (with_tickets h))
  where
    registers : ℕ × Entry → Bool
    registers taken = is_number (env_of taken.1.call) e && is_registered (answer_in taken.1.answers taken.0)

    go : (b : Bool) → is_own config h f entry.call ≡ b → registers (length (own config h f), own_entry b config h f entry) ≡ registers (length h, entry)
    go true q = ap (λ (a : Option Answer). is_number (env_of entry.call) e && is_registered a)
        (ap (answer_in (own_entry true config h f entry).answers) (own_length config h f) ∙ filtered (own_ticket config (entry ∷ h) f) entry.answers (length h) (rw (eqb-self (length h)) q))
    go false q = sym (ap (λ (b : Bool). b && is_registered (answer_in entry.answers (length h))) (env_foreign config h f e entry.call at q))

pub filter_empty : (p : ℕ → Bool) (pairs : List (ℕ × Answer)) → ((t : ℕ) → p t ≡ true → answer_in pairs t ≡ None) → filter (λ a. p a.0) pairs ≡ []
filter_empty p [] e = refl
filter_empty p (a ∷ rest) e = go (p a.0) refl (filter_empty p rest (λ t k. later t (e t k)))
  where
    here : answer_in (a ∷ rest) a.0 ≡ Some a.1
    here = rw (eqb-self a.0) refl

    later : (t : ℕ) → answer_in (a ∷ rest) t ≡ None → answer_in rest t ≡ None
    later t q = both (a.0 == t) q
      where
        both : (b : Bool) → (if b then Some a.1 else answer_in rest t) ≡ None → answer_in rest t ≡ None
        both true r = absurd (some-none r)
        both false r = r

    go : (b : Bool) → p a.0 ≡ b → filter (λ c. p c.0) rest ≡ [] → (if b then a ∷ filter (λ c. p c.0) rest else filter (λ c. p c.0) rest) ≡ []
    go true k ih = absurd (some-none (sym here ∙ e a.0 k))
    go false k ih = ih

pub events_step : (config : Config) (h : List Entry) (entry : Entry) (f e : ℕ) → function_of config e ≡ f
    → IsWithin (length h) entry.answers → is_own config h f entry.call ≡ true → events (own config h f) e ≡ events h e
    → events (own_entry true config h f entry ∷ own config h f) e ≡ events (entry ∷ h) e
events_step config h entry f e at w k ih =
    ap₂ ◌+◌
    (ap (λ o. events_in o e (own_entry true config h f entry).answers) (sym (own_cons config h entry f k)) ∙ own_events_in config (entry ∷ h) f e (length h) at (omega arith) entry.answers w) ih

pub own_events : (config : Config) (h : List Entry) (f e : ℕ) → IsLegal config h → function_of config e ≡ f → events (own config h f) e ≡ events h e
unfolding own
own_events config [] f e l at = refl
own_events config (entry ∷ h) f e l at = go (is_own config h f entry.call) refl (own_events config h f e l.0 at)
  where
    within : IsWithin (length h) entry.answers
    within = (legal_fit config h entry l.1).within

    nothing : is_own config h f entry.call ≡ false → events_in (entry ∷ h) e entry.answers ≡ 0
    nothing q = sym (own_events_in config (entry ∷ h) f e (length h) at (omega arith) entry.answers within)
        ∙ ap (events_in (own config (entry ∷ h) f) e)
        (filter_empty (own_ticket config (entry ∷ h) f) entry.answers (λ t k. others_silent config h entry f t l q k))

    go : (b : Bool) → is_own config h f entry.call ≡ b → events (own config h f) e ≡ events h e
        → events (own_entry b config h f entry ∷ own config h f) e ≡ events (entry ∷ h) e
    go true q ih = events_step config h entry f e at within q ih
    go false q ih = ap₂ ◌+◌ (sym (nothing q)) ih
