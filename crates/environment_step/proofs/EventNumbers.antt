-- The numbers of the events of one environment, and how many there are.
use Rattle.std.proofs.Common.{◌≡◌, ℕ, suc, ◌+◌, Bool, true, false, cond, List, [], ◌∷◌, Option, Some, None, sym, refl}
use Rattle.std.proofs.Common.{ap, ap₂, ◌∙◌, arith, ◌&&◌, filter, if◌then◌else◌, true≢false}
use Rattle.std.proofs.lemmas.List.Sums.{sum_by-cons}
use Rattle.call_types.specs.declared.answer.Answer.{Answer}
use Rattle.call_types.specs.declared.answer.Answer.TheVariants.{Told, Ending}
use Rattle.call_types.specs.declared.call.Entry.{Entry}
use Rattle.call_model.specs.History.{call_of}
use Rattle.call_types.specs.Calls.{env_of}
use Rattle.call_model.specs.Stand.{is_number}
use Rattle.call_model.specs.Life.{is_event, events, events_in}
use Rattle.call_model.specs.Answers.{numbered, event_at, with_event}
use Rattle.environment_step.specs.After.{numbered_from, events_of}
use Rattle.call_model.proofs.Basics.{and_false, number_some}

-- what is no event has no number
pub no_number : (n : ℕ) (a : Answer) → is_event a ≡ false → with_event n a ≡ a
no_number n (Told p d event) q = absurd (true≢false q)
no_number n (Ending reason until event) q = absurd (true≢false q)
no_number n a q = refl

pub still_event : (n : ℕ) (a : Answer) → is_event (with_event n a) ≡ is_event a
still_event n (Told p d event) = refl
still_event n (Ending reason until event) = refl
still_event n a = refl

-- each event of the list stands at a ticket of p just where that ticket's call names the environment
abbrev pub AreAt : (ℕ → Bool) → (ℕ → Option ℕ) → ℕ → List (ℕ × Answer) → Type 0
AreAt p env e [] = Unit {0}
AreAt p env e (a ∷ rest) = (is_event a.1 ≡ true → p a.0 ≡ is_number (env a.0) e) × AreAt p env e rest

one_more : (h : List Entry) (e : ℕ) (a : ℕ × Answer) (before : List (ℕ × Answer))
    → events_in h e (a ∷ before) ≡ cond (is_event a.1 && is_number (env_of (call_of h a.0)) e) 1 0 + events_in h e before
one_more h e a before = sum_by-cons (λ (b : ℕ × Answer). cond (is_event b.1 && is_number (env_of (call_of h b.0)) e) 1 0) a before

-- The numbers of an environment's own answers go on from its count.
pub numbered_own : (p : ℕ → Bool) (h : List Entry) (entry : Entry) (e : ℕ) (before pairs : List (ℕ × Answer))
    → AreAt p (λ t. env_of (call_of (entry ∷ h) t)) e pairs
    → filter (λ a. p a.0) (numbered h entry before pairs) ≡ numbered_from (events_in (entry ∷ h) e before + events h e) (filter (λ a. p a.0) pairs)
numbered_own p h entry e before [] k = refl
numbered_own p h entry e before (a ∷ rest) k = go (p a.0) refl (is_event a.1) refl (numbered_own p h entry e (a ∷ before) rest k.1)
  where
    n : ℕ
    n = events_in (entry ∷ h) e before + events h e

    env : Option ℕ
    env = env_of (call_of (entry ∷ h) a.0)

    kept : List (ℕ × Answer)
    kept = filter (λ b. p b.0) rest

    later : List (ℕ × Answer)
    later = filter (λ b. p b.0) (numbered h entry (a ∷ before) rest)

    count : (c : Bool) → (is_event a.1 && is_number env e) ≡ c → events_in (entry ∷ h) e (a ∷ before) + events h e ≡ (if c then suc n else n)
    count c q = by c (one_more (entry ∷ h) e a before ∙ ap (λ (b : Bool). cond b 1 0 + events_in (entry ∷ h) e before) q)
      where
        by : (c : Bool) → events_in (entry ∷ h) e (a ∷ before) ≡ cond c 1 0 + events_in (entry ∷ h) e before
            → events_in (entry ∷ h) e (a ∷ before) + events h e ≡ (if c then suc n else n)
        by true m = omega (arith, m)
        by false m = omega (arith, m)

    by_two : is_event a.1 ≡ true → is_number env e ≡ true → (is_event a.1 && is_number env e) ≡ true
    by_two v q = rw (v, q) refl

    by_none : is_event a.1 ≡ false → (is_event a.1 && is_number env e) ≡ false
    by_none v = rw v refl

    by_left : is_number env e ≡ false → (is_event a.1 && is_number env e) ≡ false
    by_left q = rw q (and_false (is_event a.1))

    silent : (o : Option ℕ) → is_event a.1 ≡ false → event_at h entry before o a.1 ≡ a.1
    silent None v = refl
    silent (Some d) v = no_number _ a.1 v

    pair_of : event_at h entry before env a.1 ≡ a.1 → later ≡ numbered_from n kept → is_event a.1 ≡ false
        → (a.0, event_at h entry before env a.1) ∷ later ≡ (a.0, with_event (suc n) a.1) ∷ numbered_from n kept
    pair_of x y v = ap₂ ◌∷◌ (ap (λ (b : Answer). (a.0, b)) (x ∙ sym (no_number (suc n) a.1 v))) y

    go : (b : Bool) → p a.0 ≡ b → (v : Bool) → is_event a.1 ≡ v → later ≡ numbered_from (events_in (entry ∷ h) e (a ∷ before) + events h e) kept
        → (if b then (a.0, event_at h entry before env a.1) ∷ later else later) ≡ numbered_from n (if b then a ∷ kept else kept)
    go true q true v ih =
        let at : env ≡ Some e = number_some env e (sym (k.0 v) ∙ q) in rw (at, v) (ap (λ xs. (a.0, with_event (suc n) a.1) ∷ xs) (ih ∙ ap (λ m. numbered_from m kept) (count true (by_two v (sym (k.0 v) ∙ q)))))
    go true q false v ih = rw v (pair_of (silent env v) (ih ∙ ap (λ m. numbered_from m kept) (count false (by_none v))) v)
    go false q true v ih = ih ∙ ap (λ m. numbered_from m kept) (count false (by_left (sym (k.0 v) ∙ q)))
    go false q false v ih = ih ∙ ap (λ m. numbered_from m kept) (count false (by_none v))

-- How many events the environment's own answers are.
pub counted_own : (p : ℕ → Bool) (h : List Entry) (entry : Entry) (e : ℕ) (before pairs : List (ℕ × Answer))
    → AreAt p (λ t. env_of (call_of (entry ∷ h) t)) e pairs
    → events_in (entry ∷ h) e (numbered h entry before pairs) ≡ events_of (filter (λ a. p a.0) pairs)
counted_own p h entry e before [] k = refl
counted_own p h entry e before (a ∷ rest) k =
    one_more (entry ∷ h) e (a.0, event_at h entry before env a.1) (numbered h entry (a ∷ before) rest)
    ∙ go (p a.0) refl (is_event a.1) refl (is_number env e) refl (counted_own p h entry e (a ∷ before) rest k.1)
  where
    env : Option ℕ
    env = env_of (call_of (entry ∷ h) a.0)

    kept : List (ℕ × Answer)
    kept = filter (λ b. p b.0) rest

    later : ℕ
    later = events_in (entry ∷ h) e (numbered h entry (a ∷ before) rest)

    same : (o : Option ℕ) → is_event (event_at h entry before o a.1) ≡ is_event a.1
    same None = refl
    same (Some d) = still_event _ a.1

    go : (b : Bool) → p a.0 ≡ b → (v : Bool) → is_event a.1 ≡ v → (c : Bool) → is_number env e ≡ c → later ≡ events_of kept
        → cond (is_event (event_at h entry before env a.1) && is_number env e) 1 0 + later ≡ events_of (if b then a ∷ kept else kept)
    go true q true v true w ih = rw (same env, v, w) (omega (arith, ih))
    go true q true v false w ih = absurd (true≢false (sym q ∙ k.0 v ∙ w))
    go true q false v c w ih = rw (same env, v) (omega (arith, ih))
    go false q true v true w ih = absurd (true≢false (sym w ∙ sym (k.0 v) ∙ q))
    go false q true v false w ih = rw (same env, v, w) (omega (arith, ih))
    go false q false v c w ih = rw (same env, v) (omega (arith, ih))
