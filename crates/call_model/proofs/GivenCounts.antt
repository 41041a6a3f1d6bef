-- How many of an entry's answers give an invocation.
use Rattle.std.proofs.Common.{ℕ, Bool, false, Option, Some, None, ◌≡◌, true, sym, refl, true≢false, List, ◌+◌, ◌∙◌}
use Rattle.std.proofs.Common.{cond, [], ◌∷◌, ap₂, count_by, arith, suc, zero, ◌≤◌, nat_le, ◌<◌, subst, ap, inl, inr}
use Rattle.std.proofs.Common.{◌≢◌}
use Rattle.call_types.specs.declared.answer.Answer.{Answer}
use Rattle.call_types.specs.declared.answer.Answer.TheVariants.{Delivered, Told, Ending}
use Rattle.call_types.specs.declared.call.Entry.{Entry}
use Rattle.call_model.specs.History.{call_of}
use Rattle.call_types.specs.Calls.{env_of}
use Rattle.call_model.specs.Answers.{event_at, numbered, with_answer, each_from}
use Rattle.std.proofs.lemmas.Bool.Decides.{nat_tests, eqb_tells}
use Rattle.call_model.specs.Laws.{delivers}
use Rattle.call_model.proofs.Basics.{count_cons}
use Rattle.call_model.proofs.FirstAnswers.{second}

abbrev pub gives : ℕ → Option Answer → Bool
gives p None = false
gives p (Some a) = delivers p a

pub gives_second : (p : ℕ) (a : Option Answer) → gives p a ≡ true → second a ≡ true
gives_second p (Some (Delivered q d)) k = refl
gives_second p None k = absurd (true≢false (sym k))
gives_second p (Some a) k = absurd (true≢false (sym k))

-- numbering the events keeps what is delivered
delivers_event : (h : List Entry) (entry : Entry) (before : List (ℕ × Answer)) (o : Option ℕ) (a : Answer) (p : ℕ)
    → delivers p (event_at h entry before o a) ≡ delivers p a
delivers_event h entry before None a p = refl
delivers_event h entry before (Some e) (Told q d event) p = refl
delivers_event h entry before (Some e) (Ending reason until event) p = refl
delivers_event h entry before (Some e) a p = refl

pub count_numbered : (h : List Entry) (entry : Entry) (before pairs : List (ℕ × Answer)) (p : ℕ)
    → count_by (λ a. delivers p a.1) (numbered h entry before pairs) ≡ count_by (λ a. delivers p a.1) pairs
count_numbered h entry before [] p = refl
count_numbered h entry before (a ∷ rest) p =
    count_cons (λ (a : ℕ × Answer). delivers p a.1) (a.0, event_at h entry before (env_of (call_of (entry ∷ h) a.0)) a.1) (numbered h entry (a ∷ before) rest)
    ∙ ap₂ (λ (b : Bool) (n : ℕ). cond b 1 0 + n)
    (delivers_event h entry before (env_of (call_of (entry ∷ h) a.0)) a.1 p)
    (count_numbered h entry (a ∷ before) rest p)
    ∙ sym (count_cons (λ (a : ℕ × Answer). delivers p a.1) a rest)

pub with_count : (t p : ℕ) (a : Option Answer) (rest : List (ℕ × Answer))
    → count_by (λ b. delivers p b.1) (with_answer t a rest) ≡ cond (gives p a) 1 0 + count_by (λ b. delivers p b.1) rest
with_count t p None rest = add (count_by (λ (b : ℕ × Answer). delivers p b.1) rest)
  where
    add : (n : ℕ) → n ≡ 0 + n
    add n = omega arith
with_count t p (Some a) rest = count_cons (λ (b : ℕ × Answer). delivers p b.1) (t, a) rest

-- where one ticket at most is given the invocation
pub count_each : (t n p r : ℕ) (f : ℕ → Option Answer) → ((u : ℕ) → gives p (f u) ≡ true → u ≡ r)
    → count_by (λ b. delivers p b.1) (each_from t n f) ≤ cond (nat_le t r) 1 0
count_each t zero p r f one = omega arith
count_each t (suc n) p r f one = rw (with_count t p (f t) (each_from (suc t) n f)) (go (gives p (f t)) refl (count_each (suc t) n p r f one))
  where
    rest : ℕ
    rest = count_by (λ b. delivers p b.1) (each_from (suc t) n f)

    past : t ≡ r → nat_le (suc t) r ≡ false
    past e = grind (arith, nat_tests, e)

    at : t ≡ r → nat_le t r ≡ true
    at e = grind (arith, nat_tests, e)

    less : cond (nat_le (suc t) r) 1 0 ≤ cond (nat_le t r) 1 0
    less = grind (arith, nat_tests)

    go : (b : Bool) → gives p (f t) ≡ b → rest ≤ cond (nat_le (suc t) r) 1 0 → cond b 1 0 + rest ≤ cond (nat_le t r) 1 0
    go true q k = let e : t ≡ r = one t q in rw (at e) (add (rw (past e) at k))
      where
        add : rest ≤ 0 → 1 + rest ≤ 1
        add k = omega (arith, k)
    go false q k = omega (arith, k, less)

-- where the invocation is given, it is given to some ticket
pub given_each : (t n p : ℕ) (f : ℕ → Option Answer) → 1 ≤ count_by (λ b. delivers p b.1) (each_from t n f) → (u : ℕ) × ((u < t + n) × (gives p (f u) ≡ true))
given_each t zero p f k = absurd (omega (arith, k))
given_each t (suc n) p f k = go (gives p (f t)) refl (subst (λ (m : ℕ). 1 ≤ m) (with_count t p (f t) (each_from (suc t) n f)) k) (given_each (suc t) n p f)
  where
    rest : ℕ
    rest = count_by (λ b. delivers p b.1) (each_from (suc t) n f)

    go : (b : Bool) → gives p (f t) ≡ b → 1 ≤ cond b 1 0 + rest
        → (1 ≤ rest → (u : ℕ) × ((u < suc t + n) × (gives p (f u) ≡ true)))
        → (u : ℕ) × ((u < t + suc n) × (gives p (f u) ≡ true))
    go true q k ih = (t, (omega arith, q))
    go false q k ih = let x : (u : ℕ) × ((u < suc t + n) × (gives p (f u) ≡ true)) = ih (drop k) in (x.0, (omega (arith, x.1.0), x.1.1))
      where
        drop : 1 ≤ 0 + rest → 1 ≤ rest
        drop k = omega (arith, k)

pub given_count : (t n u p : ℕ) (f : ℕ → Option Answer) → t ≤ u → u < t + n → gives p (f u) ≡ true → 1 ≤ count_by (λ b. delivers p b.1) (each_from t n f)
given_count t zero u p f le lt q = absurd (omega (arith, le, lt))
given_count t (suc n) u p f le lt q = rw (with_count t p (f t) (each_from (suc t) n f)) (elim (eqb_tells t u) [
  | inl k ↦ rw (ap (λ (m : ℕ). gives p (f m)) k.1 ∙ q) (omega arith)
  | inr k ↦ more (given_count (suc t) n u p f (next k.1) (omega (arith, lt)) q)
])
  where
    next : t ≢ u → suc t ≤ u
    next ne = omega (arith, le, ne)

    more : 1 ≤ count_by (λ b. delivers p b.1) (each_from (suc t) n f) → 1 ≤ cond (gives p (f t)) 1 0 + count_by (λ b. delivers p b.1) (each_from (suc t) n f)
    more k = omega (arith, k)
