-- The function's own history says the same as the whole one of the function's tickets: calls, answers, polls, requests, the Stop.
use Rattle.std.proofs.lemmas.Bool.{cases_lt}
use Rattle.std.proofs.Common.{◌≡◌, ℕ, ◌<◌, Bool, List, length, ◌∷◌, refl, ◌∙◌, arith, true, sym, inl, inr, false, []}
use Rattle.std.proofs.Common.{ap, ◌||◌, is_some, not, ◌&&◌, suc, ◌==◌, if◌then◌else◌, filter, true≢false, ◌+◌, cond}
use Rattle.std.proofs.Common.{nat_lt, None}
use Rattle.std.proofs.lemmas.Bool.Decides.{eqb_tells}
use Rattle.call_types.specs.declared.answer.Answer.{Answer}
use Rattle.call_types.specs.declared.call.Call.{Call}
use Rattle.call_types.specs.declared.call.Call.TheVariants.{Stop, Invoke, RuntimeNext, ExtNext, Withdraw}
use Rattle.call_types.specs.declared.call.Entry.{Entry}
use Rattle.arn_ids.specs.declared.config.Config.{Config}
use Rattle.call_model.specs.History.{call_of, answer_of, is_stop, is_invoke_of, stopped, is_expiry, answer_in, or_else, poll_env, requests, upto}
use Rattle.call_model.specs.Stand.{is_number}
use Rattle.call_model.specs.Life.{first_part, is_second, names}
use Rattle.call_model.specs.Next.{IsLegal}
use Rattle.call_model.specs.Own.{own_ticket, is_own, own, own_entry, of_function}
use Rattle.call_model.proofs.Pairs.{eqb-other}
use Rattle.call_model.proofs.Once.{fresh}
use Rattle.call_model.proofs.OwnTickets.{own_length, own_call, own_past, own_answer_of, filtered, foreign_silent, foreign, own_home, own_old}
use Rattle.call_model.proofs.TwinHistories.{IsTwin}
use Rattle.call_model.proofs.Basics.{eqb-self, count_cons}
use Rattle.call_model.proofs.TicketsWithin.{call_past, IsWithin, within_none, filter_within}

-- P tells the function's tickets of the history
abbrev pub Agrees : Config → List Entry → ℕ → (ℕ → Bool) → Type 0
Agrees config h f P = (t : ℕ) → t < length h → P t ≡ own_ticket config h f t

pub agrees_older : (config : Config) (entry : Entry) (h : List Entry) (f : ℕ) (P : ℕ → Bool) → Agrees config (entry ∷ h) f P → Agrees config h f P
agrees_older config entry h f P a t lt = a t (omega (arith, lt)) ∙ rw (eqb-other t (length h) (omega (arith, lt))) refl

pub agrees_now : (config : Config) (entry : Entry) (h : List Entry) (f : ℕ) (P : ℕ → Bool)
    → Agrees config (entry ∷ h) f P → P (length h) ≡ is_own config h f entry.call
agrees_now config entry h f P a = a (length h) (omega arith) ∙ rw (eqb-self (length h)) refl

-- the function's tickets have the same calls and answers
pub old_call : (config : Config) (h : List Entry) (f : ℕ) (P : ℕ → Bool) (t : ℕ) → Agrees config h f P → P t ≡ true → call_of (own config h f) t ≡ call_of h t
old_call config h f P t a k = elim (cases_lt t (length h)) [
  | inl lt ↦ own_call config h f t (sym (a t lt) ∙ k)
  | inr ge ↦ call_past (own config h f) t (rw (own_length config h f) (omega (arith, ge))) ∙ sym (call_past h t (omega (arith, ge)))
]

old_answer : (config : Config) (h : List Entry) (f : ℕ) (P : ℕ → Bool) (t : ℕ) → IsLegal config h → Agrees config h f P
    → P t ≡ true → answer_of (own config h f) t ≡ answer_of h t
old_answer config h f P t l a k = elim (cases_lt t (length h)) [
  | inl lt ↦ own_answer_of config h f t l (sym (a t lt) ∙ k)
  | inr ge ↦ own_past config h f t l (omega (arith, ge)) ∙ sym (fresh config h t l (omega (arith, ge)))
]

stop_own : (config : Config) (h : List Entry) (f : ℕ) (call : Call) → is_own config h f call ≡ false → is_stop call ≡ false
stop_own config h f Stop q = q
stop_own config h f call q = refl

pub invoke_own : (config : Config) (h : List Entry) (f : ℕ) (call : Call) → is_own config h f call ≡ false → is_invoke_of f call ≡ false
invoke_own config h f (Invoke g qualified trace body) q = q
invoke_own config h f call q = refl

pub own_stopped : (config : Config) (h : List Entry) (f : ℕ) → stopped (own config h f) ≡ stopped h
unfolding own
own_stopped config [] f = refl
own_stopped config (entry ∷ h) f = go (is_own config h f entry.call) refl (own_stopped config h f)
  where
    go : (b : Bool) → is_own config h f entry.call ≡ b → stopped (own config h f) ≡ stopped h
        → (is_stop (own_entry b config h f entry).call || stopped (own config h f)) ≡ (is_stop entry.call || stopped h)
    go true q ih = ap (λ (c : Bool). is_stop entry.call || c) ih
    go false q ih = rw (stop_own config h f entry.call q) ih

pub twin_own : (config : Config) (h : List Entry) (f : ℕ) (P : ℕ → Bool) → IsLegal config h → Agrees config h f P → IsTwin P (own config h f) h
twin_own config h f P l a = record {
  size = own_length config h f;
  pend = λ t k i. not (is_expiry (old_call config h f P t a k i)) && not (is_some (old_answer config h f P t l a k i));
  stop = own_stopped config h f;
}

pub twin_cons : (config : Config) (h : List Entry) (f : ℕ) (P : ℕ → Bool) (x y : Entry) → IsLegal config h
    → Agrees config h f P → x.call ≡ y.call → ((t : ℕ) → P t ≡ true → answer_in x.answers t ≡ answer_in y.answers t)
    → IsTwin P (x ∷ own config h f) (y ∷ h)
twin_cons config h f P x y l a call same = record {
  size = ap suc (own_length config h f);
  pend =
      λ t k i. not (is_expiry (if t == own_length config h f i then call i else old_call config h f P t a k i)) && not (is_some (or_else (same t k i) (old_answer config h f P t l a k i)));
  stop = λ i. is_stop (call i) || own_stopped config h f i;
}

swap_filter : (p q : ℕ × Answer → Bool) (xs : List (ℕ × Answer)) → filter p (filter q xs) ≡ filter q (filter p xs)
swap_filter p q [] = refl
swap_filter p q (a ∷ rest) = go (p a) refl (q a) refl (swap_filter p q rest)
  where
    go : (b : Bool) → p a ≡ b → (c : Bool) → q a ≡ c → filter p (filter q rest) ≡ filter q (filter p rest)
        → filter p (if c then a ∷ filter q rest else filter q rest) ≡ filter q (if b then a ∷ filter p rest else filter p rest)
    go true k true l ih = rw (k, l) (ap (λ (xs : List (ℕ × Answer)). a ∷ xs) ih)
    go true k false l ih = rw l ih
    go false k true l ih = rw k ih
    go false k false l ih = ih

-- the entry's answers to the function's tickets
pub own_same : (config : Config) (h : List Entry) (entry : Entry) (f : ℕ) (P : ℕ → Bool) (t : ℕ)
    → IsWithin (length h) entry.answers → Agrees config (entry ∷ h) f P → P t ≡ true
    → answer_in (own_entry true config h f entry).answers t ≡ answer_in entry.answers t
own_same config h entry f P t w a k = elim (cases_lt t (suc (length h))) [
  | inl lt ↦ filtered (own_ticket config (entry ∷ h) f) entry.answers t (sym (a t lt) ∙ k)
  | inr ge ↦ Rattle.call_model.proofs.PhaseStep.filter_none (λ c. own_ticket config (entry ∷ h) f c.0) entry.answers t (within_none (length h) t entry.answers w (omega (arith, ge)))
      ∙ sym (within_none (length h) t entry.answers w (omega (arith, ge)))
]

pub own_first_same : (config : Config) (h : List Entry) (entry : Entry) (f : ℕ) (P : ℕ → Bool) (t : ℕ)
    → IsWithin (length h) entry.answers → Agrees config (entry ∷ h) f P → P t ≡ true
    → answer_in (first_part (own_entry true config h f entry)).answers t ≡ answer_in (first_part entry).answers t
own_first_same config h entry f P t w a k =
    ap (λ xs. answer_in xs t) (swap_filter (λ c. not (is_second c.1)) (λ c. own_ticket config (entry ∷ h) f c.0) entry.answers)
    ∙ own_same config h (first_part entry) f P t (filter_within (length h) (λ c. not (is_second c.1)) entry.answers w) a k

-- the function's polls are its tickets
poll_own : (config : Config) (h : List Entry) (f t : ℕ) → of_function config f (poll_env (call_of h t)) ≡ true → own_ticket config h f t ≡ true
poll_own config [] f t q = q
poll_own config (entry ∷ h) f t q = go (t == length h) (poll_own config h f t) q
  where
    by_call : (call : Call) → of_function config f (poll_env call) ≡ true → is_own config h f call ≡ true
    by_call (RuntimeNext d) p = p
    by_call (ExtNext d x) p = p
    by_call call p = absurd (true≢false (sym p))

    go : (b : Bool) → (of_function config f (poll_env (call_of h t)) ≡ true → own_ticket config h f t ≡ true)
        → of_function config f (poll_env (if b then entry.call else call_of h t)) ≡ true
        → (if b then is_own config h f entry.call else own_ticket config h f t) ≡ true
    go true ih p = by_call entry.call p
    go false ih p = ih p

pub own_names : (config : Config) (h : List Entry) (f e : ℕ) (call : Call) → is_own config h f call ≡ true → names (own config h f) e call ≡ names h e call
own_names config h f e (Withdraw t) q = ap (λ (call : Call). is_number (poll_env call) e) (own_call config h f t (poll_own config h f t q))
own_names config h f e call q = refl

-- the counts of requests
own_requests : (config : Config) (h : List Entry) (f : ℕ) → requests (own config h f) f ≡ requests h f
unfolding own
own_requests config [] f = refl
own_requests config (entry ∷ h) f =
    count_cons (λ (x : Entry). is_invoke_of f x.call) (own_entry (is_own config h f entry.call) config h f entry) (own config h f)
    ∙ (λ i. cond (go (is_own config h f entry.call) refl i) 1 0 + own_requests config h f i)
    ∙ sym (count_cons (λ (x : Entry). is_invoke_of f x.call) entry h)
  where
    go : (b : Bool) → is_own config h f entry.call ≡ b → is_invoke_of f (own_entry b config h f entry).call ≡ is_invoke_of f entry.call
    go true q = refl
    go false q = sym (invoke_own config h f entry.call q)

pub own_requests_upto : (config : Config) (h : List Entry) (f p : ℕ) → requests (upto (own config h f) p) f ≡ requests (upto h p) f
unfolding own
own_requests_upto config [] f p = refl
own_requests_upto config (entry ∷ h) f p = rw (own_length config h f) (go (nat_lt p (length h)) (own_requests_upto config h f p))
  where
    go : (b : Bool) → requests (upto (own config h f) p) f ≡ requests (upto h p) f
        → requests (if b then upto (own config h f) p else own config (entry ∷ h) f) f ≡ requests (if b then upto h p else entry ∷ h) f
    go true ih = ih
    go false ih = own_requests config (entry ∷ h) f

-- what is own stands in the own history as the entry with the answers to own tickets
pub own_cons : (config : Config) (h : List Entry) (entry : Entry) (f : ℕ) → is_own config h f entry.call ≡ true
    → own config (entry ∷ h) f ≡ own_entry true config h f entry ∷ own config h f
unfolding own
own_cons config h entry f w = ap (λ (b : Bool). own_entry b config h f entry ∷ own config h f) w

-- an entry of others answers no ticket of the function
pub others_silent : (config : Config) (h : List Entry) (entry : Entry) (f t : ℕ) → IsLegal config (entry ∷ h)
    → is_own config h f entry.call ≡ false → own_ticket config (entry ∷ h) f t ≡ true → answer_in entry.answers t ≡ None
others_silent config h entry f t l w k = elim (eqb_tells t (length h)) [
  | inl p ↦ absurd (true≢false (sym (rw p.0 at k) ∙ w))
  | inr p ↦ let mine : own_ticket config h f t ≡ true =
      rw p.0 at k in foreign_silent config h entry f t l.1 (own_old config h f t mine) (own_home config h f t l.0 mine) (foreign config h entry f l.1 w)
]
