-- The answers that a call of the function gives are the same in the function's own history.
use Rattle.std.proofs.Common.{◌≡◌, ℕ, zero, suc, ◌+◌, ◌<◌, Bool, true, false, List, [], ◌∷◌, length, Option, Some, None}
use Rattle.std.proofs.Common.{sym, refl, ap, ◌∙◌, inl, inr, arith, ◌≢◌, ◌==◌, filter, true≢false, if◌then◌else◌}
use Rattle.std.proofs.lemmas.Bool.Decides.{eqb_tells}
use Rattle.std.proofs.lemmas.Bool.{eqb-true, or_parts}
use Rattle.call_types.specs.declared.answer.Answer.{Answer}
use Rattle.call_types.specs.declared.answer.Answer.TheVariants.{Done}
use Rattle.call_types.specs.declared.call.Call.{Call}
use Rattle.call_types.specs.declared.call.Call.TheVariants.{Invoke, RuntimeNext, Response, ResponseTooLarge, Failure}
use Rattle.call_types.specs.declared.call.Call.TheVariants.{InitFailure, Register, ExtNext, ExtInitFailure}
use Rattle.call_types.specs.declared.call.Call.TheVariants.{ExtExitFailure, Tick, Withdraw, Spindown, Stop, Expire}
use Rattle.call_types.specs.declared.call.Call.TheVariants.{Reserve}
use Rattle.call_types.specs.declared.call.Entry.{Entry}
use Rattle.arn_ids.specs.declared.config.Config.{Config}
use Rattle.arn_ids.specs.Environments.{function_of}
use Rattle.call_model.specs.History.{call_of, place_of, or_else}
use Rattle.call_types.specs.Calls.{env_of}
use Rattle.call_model.specs.Stand.{is_number, role}
use Rattle.call_model.specs.Life.{Lifecycle, phase, stand, concerns, names, events_in}
use Rattle.call_model.specs.Answers.{answers, with_answer, each_from, numbered, first_entry, answer_to, home}
use Rattle.call_model.specs.Answers.{first_answer, first_answers, second_answer, second_at, own_first, other_answer}
use Rattle.call_model.specs.Answers.{answer_at, verdict_answer, event_at, with_event}
use Rattle.call_model.specs.Limits.{place_for, verdict, admitted_to}
use Rattle.call_model.specs.Polls.{by_role, delivered, begun}
use Rattle.call_model.specs.Table.{own_answer}
use Rattle.call_model.proofs.Pairs.{in_each, eqb-other}
use Rattle.call_model.proofs.OwnTickets.{own_length, own_call, own_home}
use Rattle.call_model.proofs.TicketsWithin.{each_within, IsWithin, IsFit}
use Rattle.call_model.proofs.OwnHistory.{own_same, own_names, own_cons}
use Rattle.call_model.proofs.OwnEvents.{own_events_in, own_events}
use Rattle.call_model.proofs.OwnStands.{own_phase, own_stand, fit_phase, fit_stand}
use Rattle.call_model.specs.Next.{IsLegal}
use Rattle.call_model.specs.Own.{own, own_entry, own_ticket, is_own}
use Rattle.call_model.proofs.Basics.{eqb-self, some-none}
use Rattle.call_model.proofs.Elsewhere.{begun_same, life_elsewhere}

-- the function's tickets are placed where they were
pub own_place : (config : Config) (h : List Entry) (f t : ℕ) → own_ticket config h f t ≡ true → place_of (own config h f) t ≡ place_of h t
unfolding own
own_place config [] f t k = absurd (true≢false (sym k))
own_place config (entry ∷ h) f t k = rw (own_length config h f) (go (t == length h) (own_place config h f t) k)
  where
    kept : (b : Bool) → b ≡ true → (own_entry b config h f entry).place ≡ entry.place
    kept true q = refl
    kept false q = absurd (true≢false (sym q))

    go : (b : Bool) → (own_ticket config h f t ≡ true → place_of (own config h f) t ≡ place_of h t)
        → (if b then is_own config h f entry.call else own_ticket config h f t) ≡ true
        → (if b then (own_entry (is_own config h f entry.call) config h f entry).place else place_of (own config h f) t) ≡ (if b then entry.place else place_of h t)
    go true ih q = kept (is_own config h f entry.call) q
    go false ih q = ih q

pub own_home_same : (config : Config) (h : List Entry) (f t : ℕ) → own_ticket config h f t ≡ true → home (own config h f) t ≡ home h t
own_home_same config h f t k = λ i. or_else (own_place config h f t k i) (env_of (own_call config h f t k i))

-- a ticket of others has no environment there
pub homeless : (config : Config) (h : List Entry) (f t : ℕ) → t < length h → own_ticket config h f t ≡ false → home (own config h f) t ≡ None
unfolding own
homeless config [] f t lt k = absurd (omega (arith, lt))
homeless config (entry ∷ h) f t lt k = elim (eqb_tells t (length h)) [
  | inl p ↦ rw (own_length config h f) (rw p.0 (gone (is_own config h f entry.call) (rw p.0 at k)))
  | inr p ↦ rw (own_length config h f) (rw p.0 (homeless config h f t (let ne : t ≢ length h = p.1 in omega (arith, lt)) (rw p.0 at k)))
]
  where
    gone : (b : Bool) → b ≡ false → or_else (own_entry b config h f entry).place (env_of (own_entry b config h f entry).call) ≡ None
    gone true q = absurd (true≢false q)
    gone false q = refl

-- a ticket of the function names only its environments
pub env_own : (config : Config) (h : List Entry) (f t e : ℕ) → own_ticket config h f t ≡ true → env_of (call_of h t) ≡ Some e → function_of config e ≡ f
env_own config [] f t e k q = absurd (true≢false (sym k))
env_own config (entry ∷ h) f t e k q = go (t == length h) (env_own config h f t e) k q
  where
    by_env : (d : ℕ) → (function_of config d == f) ≡ true → Some d ≡ Some e → function_of config e ≡ f
    by_env d p r = let same : d ≡ e = cc in ap (function_of config) (sym same) ∙ eqb-true (function_of config d) f p

    by_call : (call : Call) → is_own config h f call ≡ true → env_of call ≡ Some e → function_of config e ≡ f
    by_call (Invoke g qualified trace body) p r = absurd (some-none (sym r))
    by_call Stop p r = absurd (some-none (sym r))
    by_call Tick p r = absurd (some-none (sym r))
    by_call (Withdraw u) p r = absurd (some-none (sym r))
    by_call (Reserve g count) p r = absurd (some-none (sym r))
    by_call (RuntimeNext d) p r = by_env d p r
    by_call (Response d id body) p r = by_env d p r
    by_call (ResponseTooLarge d id) p r = by_env d p r
    by_call (Failure d id body) p r = by_env d p r
    by_call (InitFailure d body) p r = by_env d p r
    by_call (Register d name invoke shutdown account) p r = by_env d p r
    by_call (ExtNext d x) p r = by_env d p r
    by_call (ExtInitFailure d x body) p r = by_env d p r
    by_call (ExtExitFailure d x body) p r = by_env d p r
    by_call (Spindown d) p r = by_env d p r
    by_call (Expire d) p r = by_env d p r

    go : (b : Bool) → (own_ticket config h f t ≡ true → env_of (call_of h t) ≡ Some e → function_of config e ≡ f)
        → (if b then is_own config h f entry.call else own_ticket config h f t) ≡ true
        → env_of (if b then entry.call else call_of h t) ≡ Some e → function_of config e ≡ f
    go true ih p r = by_call entry.call p r
    go false ih p r = ih p r

-- a ticket gets nothing of a call that concerns its environment not
pub gets_none : (config : Config) (h : List Entry) (now : ℕ) (call : Call) (t : ℕ) → t < length h
    → ((e : ℕ) → home h t ≡ Some e → concerns h e (first_entry config h now call) ≡ false)
    → answer_to config h (first_entry config h now call) t ≡ None
unfolding answer_to first_answer second_answer first_answers
gets_none config h now call t lt far = rw (in_each 0 (suc (length h)) t (first_answer config h now call) (omega arith) (omega (arith, lt)), first, second) refl
  where
    ne : t ≢ length h
    ne = omega arith

    at_first : (o : Option ℕ) → home h t ≡ o → other_answer config h now call t o ≡ None
    at_first None q = refl
    at_first (Some e) q = ap (answer_at config h now e call t) ((or_parts (is_number (first_entry config h now call).place e) (names h e call) (far e q)).1)

    first : first_answer config h now call t ≡ None
    first = rw (eqb-other t (length h) ne) (at_first (home h t) refl)

    at_second : (o : Option ℕ) → home h t ≡ o → second_at config h (first_entry config h now call) t o ≡ None
    at_second None q = refl
    at_second (Some e) q =
        ap (λ (b : Option (ℕ × ℕ)). delivered b (role (stand config (first_entry config h now call ∷ h) e) t))
        (ap (λ (l : Lifecycle). begun (phase config h e) l.phase) (life_elsewhere config h (first_entry config h now call) e (far e q)) ∙ begun_same (phase config h e))

    second : second_answer config h (first_entry config h now call) t ≡ None
    second = rw (eqb-other t (length h) ne) (at_second (home h t) refl)

-- the answers of a part of the tickets
filter_each : (p : ℕ → Bool) (t n : ℕ) (f g : ℕ → Option Answer) → ((u : ℕ) → u < t + n → p u ≡ true → f u ≡ g u)
    → ((u : ℕ) → u < t + n → p u ≡ false → f u ≡ None) → each_from t n f ≡ filter (λ a. p a.0) (each_from t n g)
filter_each p t zero f g same none = refl
filter_each p t (suc n) f g same none =
    go (p t) refl (f t) (g t) (same t (omega arith)) (none t (omega arith))
    (filter_each p (suc t) n f g (λ u lt. same u (omega (arith, lt))) (λ u lt. none u (omega (arith, lt))))
  where
    some_some : (b : Answer) → Some b ≡ None → ⊥
    some_some b q = cc

    later : List (ℕ × Answer)
    later = filter (λ a. p a.0) (each_from (suc t) n g)

    go : (b : Bool) → p t ≡ b → (x y : Option Answer) → (b ≡ true → x ≡ y) → (b ≡ false → x ≡ None) → each_from (suc t) n f ≡ later
        → with_answer t x (each_from (suc t) n f) ≡ filter (λ a. p a.0) (with_answer t y (each_from (suc t) n g))
    go true q x None s z ih = ap (λ (w : Option Answer). with_answer t w (each_from (suc t) n f)) (s refl) ∙ ih
    go true q x (Some a) s z ih = ap (λ (w : Option Answer). with_answer t w (each_from (suc t) n f)) (s refl) ∙ rw q (ap (λ xs. (t, a) ∷ xs) ih)
    go false q x None s z ih = ap (λ (w : Option Answer). with_answer t w (each_from (suc t) n f)) (z refl) ∙ ih
    go false q x (Some a) s z ih = ap (λ (w : Option Answer). with_answer t w (each_from (suc t) n f)) (z refl) ∙ rw q ih

-- the function's events get the same numbers
numbered_own : (config : Config) (h : List Entry) (y : Entry) (f : ℕ) → IsLegal config h
    → is_own config h f y.call ≡ true → (before pairs : List (ℕ × Answer)) → IsWithin (length h) before
    → IsWithin (length h) pairs
    → numbered (own config h f) (own_entry true config h f y) (filter (λ a. own_ticket config (y ∷ h) f a.0) before) (filter (λ a. own_ticket config (y ∷ h) f a.0) pairs)
    ≡ filter (λ a. own_ticket config (y ∷ h) f a.0) (numbered h y before pairs)
numbered_own config h y f l w before [] v k = refl
numbered_own config h y f l w before (a ∷ rest) v k = go (own_ticket config (y ∷ h) f a.0) refl (numbered_own config h y f l w (a ∷ before) rest (k.0, v) k.1)
  where
    p : ℕ → Bool
    p t = own_ticket config (y ∷ h) f t

    o : List Entry
    o = own config h f

    x : Entry
    x = own_entry true config h f y

    mine : List (ℕ × Answer) → List (ℕ × Answer)
    mine xs = filter (λ c. p c.0) xs

    events_are : (e : ℕ) → function_of config e ≡ f → events_in (x ∷ o) e (mine before) ≡ events_in (y ∷ h) e before
    events_are e at =
        ap (λ s. events_in s e (mine before)) (sym (own_cons config h y f w)) ∙ own_events_in config (y ∷ h) f e (length h) at (omega arith) before v

    at_env : (n : Option ℕ) → ((e : ℕ) → n ≡ Some e → function_of config e ≡ f) → event_at o x (mine before) n a.1 ≡ event_at h y before n a.1
    at_env None at = refl
    at_env (Some e) at = λ i. with_event (suc (events_are e (at e refl) i + own_events config h f e l (at e refl) i)) a.1

    event_is : p a.0 ≡ true → event_at o x (mine before) (env_of (call_of (x ∷ o) a.0)) a.1 ≡ event_at h y before (env_of (call_of (y ∷ h) a.0)) a.1
    event_is q =
        ap (λ s. event_at o x (mine before) (env_of (call_of s a.0)) a.1) (sym (own_cons config h y f w))
        ∙ ap (λ c. event_at o x (mine before) (env_of c) a.1) (own_call config (y ∷ h) f a.0 q)
        ∙ at_env (env_of (call_of (y ∷ h) a.0)) (λ e r. env_own config (y ∷ h) f a.0 e q r)

    go : (b : Bool) → p a.0 ≡ b → numbered o x (mine (a ∷ before)) (mine rest) ≡ mine (numbered h y (a ∷ before) rest)
        → numbered o x (mine before) (if b then a ∷ mine rest else mine rest)
        ≡ (if b then (a.0, event_at h y before (env_of (call_of (y ∷ h) a.0)) a.1) ∷ mine (numbered h y (a ∷ before) rest) else mine (numbered h y (a ∷ before) rest))
    go true q ih = λ i. (a.0, event_is q i) ∷ (ap (λ (b : Bool). numbered o x (if b then a ∷ mine before else mine before) (mine rest)) (sym q) ∙ ih) i
    go false q ih = ap (λ (b : Bool). numbered o x (if b then a ∷ mine before else mine before) (mine rest)) (sym q) ∙ ih

-- the own answer of a call of the function
own_first_own : (config : Config) (h : List Entry) (f : ℕ) (call : Call) → IsLegal config h
    → verdict config (own config h f) f ≡ verdict config h f → is_own config h f call ≡ true
    → own_first config (own config h f) call ≡ own_first config h call
unfolding own_first
own_first_own config h f call l v w = go call w
  where
    at_env : (call : Call) (d : ℕ) → (function_of config d == f) ≡ true → own_answer (stand config (own config h f) d) call ≡ own_answer (stand config h d) call
    at_env call d q = ap (λ s. own_answer s call) (own_stand config h f d l (eqb-true (function_of config d) f q))

    go : (call : Call) → is_own config h f call ≡ true → own_first config (own config h f) call ≡ own_first config h call
    go (Invoke g qualified trace body) q =
        let same : g ≡ f = eqb-true g f q in ap (λ (n : ℕ). verdict_answer (verdict config (own config h f) n)) same ∙ ap verdict_answer v ∙ ap (λ (n : ℕ). verdict_answer (verdict config h n)) (sym same)
    go Stop q = refl
    go Tick q = refl
    go (Withdraw u) q = refl
    go (Reserve g count) q = absurd (true≢false (sym q))
    go (RuntimeNext d) q = at_env (RuntimeNext d) d q
    go (Response d id body) q = at_env (Response d id body) d q
    go (ResponseTooLarge d id) q = at_env (ResponseTooLarge d id) d q
    go (Failure d id body) q = at_env (Failure d id body) d q
    go (InitFailure d body) q = at_env (InitFailure d body) d q
    go (Register d name invoke shutdown account) q = at_env (Register d name invoke shutdown account) d q
    go (ExtNext d x) q = at_env (ExtNext d x) d q
    go (ExtInitFailure d x body) q = at_env (ExtInitFailure d x body) d q
    go (ExtExitFailure d x body) q = at_env (ExtExitFailure d x body) d q
    go (Spindown d) q = at_env (Spindown d) d q
    go (Expire d) q = at_env (Expire d) d q

pub own_place_for : (config : Config) (h : List Entry) (f : ℕ) (call : Call)
    → verdict config (own config h f) f ≡ verdict config h f → is_own config h f call ≡ true
    → place_for config (own config h f) call ≡ place_for config h call
own_place_for config h f (Invoke g qualified trace body) v q =
    let same : g ≡ f = eqb-true g f q in ap (λ (n : ℕ). admitted_to (verdict config (own config h f) n)) same ∙ ap admitted_to v ∙ ap (λ (n : ℕ). admitted_to (verdict config h n)) (sym same)
own_place_for config h f call v q = refl

-- the first answers of the function's tickets
first_own : (config : Config) (h : List Entry) (entry : Entry) (f t : ℕ) → IsLegal config h
    → verdict config (own config h f) f ≡ verdict config h f → is_own config h f entry.call ≡ true
    → own_ticket config (entry ∷ h) f t ≡ true
    → first_answer config (own config h f) entry.moment entry.call t ≡ first_answer config h entry.moment entry.call t
unfolding first_answer
first_own config h entry f t l v w k = rw (own_length config h f) (go (t == length h) k)
  where
    o : List Entry
    o = own config h f

    at_home : (n : Option ℕ) → ((e : ℕ) → n ≡ Some e → function_of config e ≡ f)
        → other_answer config o entry.moment entry.call t n ≡ other_answer config h entry.moment entry.call t n
    at_home None at = refl
    at_home (Some e) at = ap (answer_at config o entry.moment e entry.call t) (own_names config h f e entry.call w) ∙ both (names h e entry.call)
      where
        s : stand config o e ≡ stand config h e
        s = own_stand config h f e l (at e refl)

        both : (b : Bool) → answer_at config o entry.moment e entry.call t b ≡ answer_at config h entry.moment e entry.call t b
        both false = refl
        both true = λ i. by_role (own_length config h f i) entry.moment (s i) entry.call t (role (s i) t)

    go : (b : Bool) → (if b then is_own config h f entry.call else own_ticket config h f t) ≡ true
        → (if b then own_first config o entry.call else other_answer config o entry.moment entry.call t (home o t)) ≡ (if b then own_first config h entry.call else other_answer config h entry.moment entry.call t (home h t))
    go true q = own_first_own config h f entry.call l v w
    go false q = ap (other_answer config o entry.moment entry.call t) (own_home_same config h f t q) ∙ at_home (home h t) (own_home config h f t l q)

-- the entry with its first answers only
pub first_fit : (config : Config) (h : List Entry) (now : ℕ) (call : Call) → IsFit config h (first_entry config h now call)
unfolding first_answers
first_fit config h now call = record { placed = refl; within = each_within (length h) 0 (suc (length h)) (first_answer config h now call) (omega arith) }

abbrev pub first_of : Config → List Entry → Entry → Entry
first_of config h entry = first_entry config h entry.moment entry.call

not_last : (config : Config) (h : List Entry) (entry : Entry) (f t : ℕ) → is_own config h f entry.call ≡ true
    → t < suc (length h) → own_ticket config (entry ∷ h) f t ≡ false
    → (t < length h) × (own_ticket config h f t ≡ false)
not_last config h entry f t w lt k = elim (eqb_tells t (length h)) [
  | inl p ↦ absurd (true≢false (sym w ∙ rw p.0 at k))
  | inr p ↦ (let ne : t ≢ length h = p.1 in omega (arith, lt), rw p.0 at k)
]

first_entry_own : (config : Config) (h : List Entry) (entry : Entry) (f : ℕ) → IsLegal config h
    → verdict config (own config h f) f ≡ verdict config h f → is_own config h f entry.call ≡ true
    → first_of config (own config h f) entry ≡ own_entry true config h f (first_of config h entry)
unfolding first_answers first_answer
first_entry_own config h entry f l v w =
    λ i. record { moment = entry.moment; call = entry.call; answers = given i; place = own_place_for config h f entry.call v w i }
  where
    none : (t : ℕ) → t < length h → own_ticket config h f t ≡ false → first_answer config (own config h f) entry.moment entry.call t ≡ None
    none t lt k = rw (own_length config h f, eqb-other t (length h) (omega (arith, lt)), homeless config h f t lt k) refl

    given : first_answers config (own config h f) entry.moment entry.call ≡ filter (λ a. own_ticket config (entry ∷ h) f a.0) (first_answers config h entry.moment entry.call)
    given = ap (λ (n : ℕ). each_from 0 (suc n) (first_answer config (own config h f) entry.moment entry.call)) (own_length config h f)
        ∙ filter_each (own_ticket config (entry ∷ h) f) 0 (suc (length h))
        (first_answer config (own config h f) entry.moment entry.call)
        (first_answer config h entry.moment entry.call)
        (λ t lt k. first_own config h entry f t l v w k)
        (λ t lt k. let old : (t < length h) × (own_ticket config h f t ≡ false) = not_last config h entry f t w (omega (arith, lt)) k in none t old.0 old.1)

-- the second answers of the function's tickets
second_own : (config : Config) (h : List Entry) (entry : Entry) (f t : ℕ) → IsLegal config (entry ∷ h)
    → is_own config h f entry.call ≡ true → own_ticket config (entry ∷ h) f t ≡ true
    → second_answer config (own config h f) (own_entry true config h f (first_of config h entry)) t ≡ second_answer config h (first_of config h entry) t
unfolding second_answer
second_own config h entry f t l w k =
    ap (λ s. second_at config o x t (home s t)) (sym (own_cons config h y f w))
    ∙ ap (second_at config o x t) (own_home_same config (y ∷ h) f t k) ∙ at_home (home (y ∷ h) t) mine
  where
    o : List Entry
    o = own config h f

    y : Entry
    y = first_of config h entry

    x : Entry
    x = own_entry true config h f y

    mine : (e : ℕ) → home (y ∷ h) t ≡ Some e → function_of config e ≡ f
    mine e q =
        own_home config (entry ∷ h) f t l k e
        (ap (λ (n : Option ℕ). or_else (if t == length h then n else place_of h t) (env_of (if t == length h then entry.call else call_of h t))) (l.1.place) ∙ q)

    at_home : (n : Option ℕ) → ((e : ℕ) → n ≡ Some e → function_of config e ≡ f) → second_at config o x t n ≡ second_at config h y t n
    at_home None at = refl
    at_home (Some e) at =
        λ i. delivered (begun (own_phase config h f e l.0 (at e refl) i) (fit_phase config h y f e l.0 (first_fit config h entry.moment entry.call) w (at e refl) i)) (role (fit_stand config h y f e l.0 (first_fit config h entry.moment entry.call) w (at e refl) i) t)

-- The answers of an entry of the function are those to its own tickets, alone.
pub own_answers : (config : Config) (h : List Entry) (entry : Entry) (f : ℕ) → IsLegal config (entry ∷ h)
    → verdict config (own config h f) f ≡ verdict config h f → is_own config h f entry.call ≡ true
    → (own_entry true config h f entry).answers ≡ answers config (own config h f) entry.moment entry.call
unfolding answers answer_to
own_answers config h entry f l v w =
    ap (filter (λ a. own_ticket config (entry ∷ h) f a.0)) (l.1.answers)
    ∙ sym (ap (λ (z : Entry). numbered o z [] (each_from 0 (suc (length o)) (answer_to config o z))) firsts
    ∙ ap (numbered o x []) lists
    ∙ numbered_own config h y f l.0 w [] (each_from 0 (suc (length h)) (answer_to config h y)) tt
    (each_within (length h) 0 (suc (length h)) (answer_to config h y) (omega arith)))
  where
    o : List Entry
    o = own config h f

    y : Entry
    y = first_of config h entry

    x : Entry
    x = own_entry true config h f y

    firsts : first_of config o entry ≡ x
    firsts = first_entry_own config h entry f l.0 v w

    same : (t : ℕ) → own_ticket config (entry ∷ h) f t ≡ true → answer_to config o x t ≡ answer_to config h y t
    same t k =
        λ i. or_else (own_same config h y f (own_ticket config (entry ∷ h) f) t ((first_fit config h entry.moment entry.call).within) (λ u lt. refl) k i) (second_own config h entry f t l w k i)

    none : (t : ℕ) → t < length h → own_ticket config h f t ≡ false → answer_to config o x t ≡ None
    none t lt k =
        ap (λ (z : Entry). answer_to config o z t) (sym firsts)
        ∙ gets_none config o entry.moment entry.call t (rw (own_length config h f) lt) (λ e q. absurd (some-none (sym q ∙ homeless config h f t lt k)))

    lists : each_from 0 (suc (length o)) (answer_to config o x) ≡ filter (λ a. own_ticket config (entry ∷ h) f a.0) (each_from 0 (suc (length h)) (answer_to config h y))
    lists = ap (λ (n : ℕ). each_from 0 (suc n) (answer_to config o x)) (own_length config h f)
        ∙ filter_each (own_ticket config (entry ∷ h) f) 0 (suc (length h)) (answer_to config o x) (answer_to config h y) (λ t lt k. same t k)
        (λ t lt k. let old : (t < length h) × (own_ticket config h f t ≡ false) = not_last config h entry f t w (omega (arith, lt)) k in none t old.0 old.1)

-- one answer, to the last ticket
each_last : (t m n : ℕ) (f : ℕ → Option Answer) (a : Answer) → t + m ≡ n → ((u : ℕ) → u < n → f u ≡ None) → f n ≡ Some a → each_from t (suc m) f ≡ (n, a) ∷ []
each_last t zero n f a at none last = let same : t ≡ n = omega (arith, at) in λ i. with_answer (same i) ((ap f same ∙ last) i) []
each_last t (suc m) n f a at none last =
    ap (λ w. with_answer t w (each_from (suc t) (suc m) f)) (none t (omega (arith, at))) ∙ each_last (suc t) m n f a (omega (arith, at)) none last

-- A Tick is answered Done, and nobody else gets anything.
pub tick_answers : (config : Config) (h : List Entry) (now : ℕ) → answers config h now Tick ≡ (length h, Done) ∷ []
unfolding answers answer_to first_answers first_answer own_first
tick_answers config h now =
    ap (numbered h fe []) (each_last 0 (length h) (length h) (answer_to config h fe) Done (omega arith) (λ u lt. gets_none config h now Tick u lt (λ e q. refl)) mine)
    ∙ rw (eqb-self (length h)) refl
  where
    fe : Entry
    fe = first_entry config h now Tick

    mine : answer_to config h fe (length h) ≡ Some Done
    mine = rw (in_each 0 (suc (length h)) (length h) (first_answer config h now Tick) (omega arith) (omega arith), eqb-self (length h)) refl
