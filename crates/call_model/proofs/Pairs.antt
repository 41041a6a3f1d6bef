-- Lists of answers by ticket.
use Rattle.std.proofs.Common.{◌≡◌, ℕ, zero, suc, ◌+◌, ◌<◌, ◌≤◌, true, false, cond, eqb, List, [], ◌∷◌, Option, Some}
use Rattle.std.proofs.Common.{None, sym, refl, ap, ◌∙◌, inl, inr, arith, ◌≢◌, is_some, count_by, ◌==◌}
use Rattle.std.proofs.lemmas.Bool.Decides.{eqb_tells, nat_tests}
use Rattle.std.proofs.lemmas.List.Sums.{sum_by-cons}
use Rattle.call_types.specs.declared.answer.Answer.{Answer}
use Rattle.call_types.specs.declared.call.Entry.{Entry}
use Rattle.call_model.specs.History.{answer_in, call_of}
use Rattle.call_types.specs.Calls.{env_of}
use Rattle.call_model.specs.Answers.{with_answer, each_from, numbered, event_at}
use Rattle.call_model.proofs.Basics.{some-none}

-- below the first ticket there is no answer
pub none_below : (t n u : ℕ) (f : ℕ → Option Answer) → u < t → answer_in (each_from t n f) u ≡ None
none_below t zero u f h = refl
none_below t (suc n) u f h = go (f t) (none_below (suc t) n u f (omega arith))
  where
    go : (a : Option Answer) → answer_in (each_from (suc t) n f) u ≡ None → answer_in (with_answer t a (each_from (suc t) n f)) u ≡ None
    go None e = e
    go (Some a) e = grind (arith, nat_tests, e)

pub in_each : (t n u : ℕ) (f : ℕ → Option Answer) → t ≤ u → u < t + n → answer_in (each_from t n f) u ≡ f u
in_each t zero u f h k = absurd (omega arith)
in_each t (suc n) u f h k =
    elim (eqb_tells t u) [
      | inl p ↦ here p.0 p.1 (f t) refl
      | inr p ↦ later p.0 (in_each (suc t) n u f (let ne : t ≢ u = p.1 in omega arith) (omega arith)) (f t)
    ]
  where
    here : eqb t u ≡ true → t ≡ u → (a : Option Answer) → f t ≡ a → answer_in (with_answer t a (each_from (suc t) n f)) u ≡ f u
    here b e None q = none_below (suc t) n u f (omega arith) ∙ sym q ∙ ap f e
    here b e (Some a) q = rw b (sym q ∙ ap f e)

    later : eqb t u ≡ false → answer_in (each_from (suc t) n f) u ≡ f u → (a : Option Answer) → answer_in (with_answer t a (each_from (suc t) n f)) u ≡ f u
    later b e None = e
    later b e (Some a) = rw b e

pub past_each : (t n u : ℕ) (f : ℕ → Option Answer) → t + n ≤ u → answer_in (each_from t n f) u ≡ None
past_each t zero u f h = refl
past_each t (suc n) u f h = go (f t) (past_each (suc t) n u f (omega arith))
  where
    go : (a : Option Answer) → answer_in (each_from (suc t) n f) u ≡ None → answer_in (with_answer t a (each_from (suc t) n f)) u ≡ None
    go None e = e
    go (Some a) e = grind (arith, nat_tests, e)

-- numbering the events changes no ticket
pub numbered_same : (h : List Entry) (entry : Entry) (before pairs : List (ℕ × Answer)) (t : ℕ)
    → is_some (answer_in (numbered h entry before pairs) t) ≡ is_some (answer_in pairs t)
numbered_same h entry before [] t = refl
numbered_same h entry before (a ∷ rest) t =
    elim (eqb_tells a.0 t) [
      | inl p ↦ rw p.0 refl
      | inr p ↦ rw p.0 (numbered_same h entry (a ∷ before) rest t)
    ]

pub eqb-other : (t u : ℕ) → t ≢ u → eqb t u ≡ false
eqb-other t u ne = grind (arith, nat_tests)

-- how many pairs have this ticket
abbrev pub times_in : List (ℕ × Answer) → ℕ → ℕ
times_in pairs t = count_by (λ a. a.0 == t) pairs

times_cons : (a : ℕ × Answer) (rest : List (ℕ × Answer)) (t : ℕ) → times_in (a ∷ rest) t ≡ cond (a.0 == t) 1 0 + times_in rest t
times_cons a rest t = sum_by-cons (λ (b : ℕ × Answer). cond (b.0 == t) 1 0) a rest

pub times_none : (pairs : List (ℕ × Answer)) (t : ℕ) → answer_in pairs t ≡ None → times_in pairs t ≡ 0
times_none [] t e = refl
times_none (a ∷ rest) t e =
    times_cons a rest t ∙ elim (eqb_tells a.0 t) [
      | inl p ↦ absurd (some-none (rw p.0 at e))
      | inr p ↦ rw p.0 (omega (arith, times_none rest t (rw p.0 at e)))
    ]

pub times_each : (t n u : ℕ) (f : ℕ → Option Answer) → times_in (each_from t n f) u ≤ 1
times_each t zero u f = omega arith
times_each t (suc n) u f = go (f t) (times_each (suc t) n u f)
  where
    go : (a : Option Answer) → times_in (each_from (suc t) n f) u ≤ 1 → times_in (with_answer t a (each_from (suc t) n f)) u ≤ 1
    go None h = h
    go (Some a) h =
        rw (times_cons (t, a) (each_from (suc t) n f) u)
        (elim (eqb_tells t u) [
          | inl p ↦ rw (p.0, times_none (each_from (suc t) n f) u (none_below (suc t) n u f (omega (arith, p.1)))) (omega arith)
          | inr p ↦ rw p.0 (omega (arith, h))
        ])

pub numbered_times : (h : List Entry) (entry : Entry) (before pairs : List (ℕ × Answer)) (t : ℕ) → times_in (numbered h entry before pairs) t ≡ times_in pairs t
numbered_times h entry before [] t = refl
numbered_times h entry before (a ∷ rest) t =
    times_cons (a.0, event_at h entry before (env_of (call_of (entry ∷ h) a.0)) a.1) (numbered h entry (a ∷ before) rest) t
    ∙ ap (λ n. cond (a.0 == t) 1 0 + n) (numbered_times h entry (a ∷ before) rest t) ∙ sym (times_cons a rest t)

pub is_some_none : {A : Type 0} (a : Option A) → is_some a ≡ false → a ≡ None
is_some_none None e = refl
is_some_none (Some a) e = absurd (cc)
