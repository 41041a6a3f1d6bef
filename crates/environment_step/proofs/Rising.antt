-- The answers of an entry stand in rising ticket order, and are known by their tickets.
use Rattle.std.proofs.lemmas.Bool.{cases_lt}
use Rattle.std.proofs.Common.{le_refl, ◌≡◌, ℕ, zero, suc, ◌<◌, ◌≤◌, Bool, true, false, eqb, List, [], ◌∷◌, Option, Some}
use Rattle.std.proofs.Common.{None, sym, refl, ap, ap₂, ◌∙◌, subst, inl, inr, arith, ◌≢◌, filter, if◌then◌else◌}
use Rattle.std.proofs.lemmas.Bool.Decides.{eqb_tells}
use Rattle.call_types.specs.declared.answer.Answer.{Answer}
use Rattle.call_types.specs.declared.call.Entry.{Entry}
use Rattle.call_model.specs.History.{answer_in}
use Rattle.call_model.specs.Answers.{with_answer, each_from, numbered}
use Rattle.call_model.proofs.Pairs.{eqb-other}
use Rattle.call_model.proofs.Basics.{eqb-self, none-some}

-- the tickets rise, from t on
abbrev pub IsRising : ℕ → List (ℕ × Answer) → Type 0
IsRising t [] = Unit {0}
IsRising t (a ∷ rest) = (t ≤ a.0) × IsRising (suc a.0) rest

pub weaker : (t u : ℕ) (pairs : List (ℕ × Answer)) → t ≤ u → IsRising u pairs → IsRising t pairs
weaker t u [] le r = tt
weaker t u (a ∷ rest) le r = (omega (arith, le, r.0), r.1)

pub each_rising : (t n : ℕ) (f : ℕ → Option Answer) → IsRising t (each_from t n f)
each_rising t zero f = tt
each_rising t (suc n) f = go (f t) (each_rising (suc t) n f)
  where
    go : (a : Option Answer) → IsRising (suc t) (each_from (suc t) n f) → IsRising t (with_answer t a (each_from (suc t) n f))
    go None r = weaker t (suc t) (each_from (suc t) n f) (omega arith) r
    go (Some a) r = (omega arith, r)

pub numbered_rising : (h : List Entry) (entry : Entry) (before pairs : List (ℕ × Answer)) (t : ℕ) → IsRising t pairs
    → IsRising t (numbered h entry before pairs)
numbered_rising h entry before [] t r = tt
numbered_rising h entry before (a ∷ rest) t r = (r.0, numbered_rising h entry (a ∷ before) rest (suc a.0) r.1)

pub rising_none : (t u : ℕ) (pairs : List (ℕ × Answer)) → IsRising t pairs → u < t → answer_in pairs u ≡ None
rising_none t u [] r lt = refl
rising_none t u (a ∷ rest) r lt = rw (eqb-other a.0 u (omega (arith, r.0))) (rising_none (suc a.0) u rest r.1 (omega (arith, r.0)))

-- what passes a test
abbrev pub passed : (Answer → Bool) → Option Answer → Option Answer
passed p None = None
passed p (Some a) = if p a then Some a else None

pub rising_filter : (p : Answer → Bool) (t u : ℕ) (pairs : List (ℕ × Answer)) → IsRising t pairs
    → answer_in (filter (λ a. p a.1) pairs) u ≡ passed p (answer_in pairs u)
rising_filter p t u [] r = refl
rising_filter p t u (a ∷ rest) r =
    elim (eqb_tells a.0 u) [
      | inl q ↦ rw q.0 (here q.0 (p a.1) (rising_filter p (suc a.0) u rest r.1 ∙ ap (passed p) (rising_none (suc a.0) u rest r.1 (omega (arith, q.1)))))
      | inr q ↦ rw q.0 (there q.0 (p a.1) (rising_filter p (suc a.0) u rest r.1))
    ]
  where
    here : eqb a.0 u ≡ true → (b : Bool) → answer_in (filter (λ c. p c.1) rest) u ≡ None
        → answer_in (if b then a ∷ filter (λ c. p c.1) rest else filter (λ c. p c.1) rest) u ≡ (if b then Some a.1 else None)
    here q true e = rw q refl
    here q false e = e

    there : eqb a.0 u ≡ false → (b : Bool) → answer_in (filter (λ c. p c.1) rest) u ≡ passed p (answer_in rest u)
        → answer_in (if b then a ∷ filter (λ c. p c.1) rest else filter (λ c. p c.1) rest) u ≡ passed p (answer_in rest u)
    there q true e = rw q e
    there q false e = e

pub some_at : (a : ℕ × Answer) (rest : List (ℕ × Answer)) (u : ℕ) → a.0 ≡ u → answer_in (a ∷ rest) u ≡ Some a.1
some_at a rest u q = rw (ap (eqb a.0) (sym q) ∙ eqb-self a.0) refl

pub skip_at : (a : ℕ × Answer) (rest : List (ℕ × Answer)) (u : ℕ) → a.0 ≢ u → answer_in (a ∷ rest) u ≡ answer_in rest u
skip_at a rest u q = rw (eqb-other a.0 u q) refl

-- rising lists that answer alike are one
pub rising_same : (t : ℕ) (xs ys : List (ℕ × Answer)) → IsRising t xs → IsRising t ys → ((u : ℕ) → answer_in xs u ≡ answer_in ys u) → xs ≡ ys
rising_same t [] [] r s e = refl
rising_same t [] (b ∷ ys) r s e = absurd (none-some (e b.0 ∙ some_at b ys b.0 refl))
rising_same t (a ∷ xs) [] r s e = absurd (none-some (sym (e a.0) ∙ some_at a xs a.0 refl))
rising_same t (a ∷ xs) (b ∷ ys) r s e =
    elim (cases_lt a.0 b.0) [
      | inl lt ↦ absurd (none-some (sym (rising_none b.0 a.0 (b ∷ ys) (le_refl b.0, s.1) lt) ∙ sym (e a.0) ∙ some_at a xs a.0 refl))
      | inr ge ↦ elim (cases_lt b.0 a.0) [
        | inl lt ↦ absurd (none-some (sym (rising_none a.0 b.0 (a ∷ xs) (le_refl a.0, r.1) lt) ∙ e b.0 ∙ some_at b ys b.0 refl))
        | inr le ↦ let q : a.0 ≡ b.0 =
            omega (arith, ge, le) in ap₂ ◌∷◌ (λ i. (q i, value (sym (some_at a xs a.0 refl) ∙ e a.0 ∙ some_at b ys a.0 (sym q)) i)) (rising_same (suc a.0) xs ys r.1 (subst (λ n. IsRising (suc n) ys) (sym q) s.1) (λ u. rest u q))
      ]
    ]
  where
    value : {x y : Answer} → Some x ≡ Some y → x ≡ y
    value h = cc

    rest : (u : ℕ) → a.0 ≡ b.0 → answer_in xs u ≡ answer_in ys u
    rest u q = elim (eqb_tells a.0 u) [
      | inl p ↦ rising_none (suc a.0) u xs r.1 (omega (arith, p.1)) ∙ sym (rising_none (suc b.0) u ys s.1 (omega (arith, p.1, q)))
      | inr p ↦ sym (skip_at a xs u p.1) ∙ e u ∙ skip_at b ys u (λ w. p.1 (q ∙ w))
    ]
