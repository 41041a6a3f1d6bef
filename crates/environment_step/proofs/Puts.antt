-- The spec's put and give keep rising order, and what a ticket gets in them.
use Rattle.std.proofs.lemmas.Bool.{cases_lt}
use Rattle.std.proofs.Common.{◌≡◌, ℕ, suc, ◌<◌, ◌≤◌, Bool, true, false, eqb, ltb, List, [], ◌∷◌, Option, Some, None}
use Rattle.std.proofs.Common.{sym, refl, ap, ◌∙◌, inl, inr, arith, ◌≢◌, filter, if◌then◌else◌, true≢false}
use Rattle.std.proofs.lemmas.Bool.Decides.{eqb_tells, nat_tests}
use Rattle.call_types.specs.declared.answer.Answer.{Answer}
use Rattle.call_model.specs.History.{answer_in}
use Rattle.environment_step.specs.After.{put, give}
use Rattle.call_model.proofs.Pairs.{eqb-other}
use Rattle.environment_step.proofs.Rising.{IsRising, weaker, rising_none, some_at, skip_at}
use Rattle.call_model.proofs.Basics.{none-some}

-- a ticket that has no answer is none of the list's
apart_from : (b : ℕ × Answer) (rest : List (ℕ × Answer)) (t : ℕ) → answer_in (b ∷ rest) t ≡ None → b.0 ≢ t
apart_from b rest t q same = none-some (sym q ∙ some_at b rest t same)

pub put_rising : (t : ℕ) (a : ℕ × Answer) (pairs : List (ℕ × Answer)) → IsRising t pairs → t ≤ a.0 → answer_in pairs a.0 ≡ None → IsRising t (put a pairs)
put_rising t a [] r le q = (le, tt)
put_rising t a (b ∷ rest) r le q =
    elim (cases_lt a.0 b.0) [
      | inl lt ↦ swap (ltb a.0 b.0) (less lt) (le, put_rising (suc a.0) b rest (weaker (suc a.0) (suc b.0) rest (omega (arith, lt)) r.1) lt (rising_none (suc b.0) b.0 rest r.1 (omega arith)))
      | inr ge ↦ keep (ltb a.0 b.0) (more ge) (r.0, put_rising (suc b.0) a rest r.1 (let ne : b.0 ≢ a.0 = apart_from b rest a.0 q in omega (arith, ge, ne)) (sym (skip_at b rest a.0 (apart_from b rest a.0 q)) ∙ q))
    ]
  where
    less : a.0 < b.0 → ltb a.0 b.0 ≡ true
    less lt = grind (arith, nat_tests, lt)

    more : b.0 ≤ a.0 → ltb a.0 b.0 ≡ false
    more ge = grind (arith, nat_tests, ge)

    swap : (c : Bool) → c ≡ true → IsRising t (a ∷ put b rest) → IsRising t (if c then a ∷ put b rest else b ∷ put a rest)
    swap true e k = k
    swap false e k = absurd (true≢false (sym e))

    keep : (c : Bool) → c ≡ false → IsRising t (b ∷ put a rest) → IsRising t (if c then a ∷ put b rest else b ∷ put a rest)
    keep false e k = k
    keep true e k = absurd (true≢false e)

-- what a ticket gets
pub put_answer : (t : ℕ) (a : ℕ × Answer) (pairs : List (ℕ × Answer)) (u : ℕ) → IsRising t pairs
    → answer_in pairs a.0 ≡ None → answer_in (put a pairs) u ≡ answer_in (a ∷ pairs) u
put_answer t a [] u r q = refl
put_answer t a (b ∷ rest) u r q =
    go (ltb a.0 b.0) (put_answer (suc b.0) b rest u r.1 (rising_none (suc b.0) b.0 rest r.1 (omega arith)))
    (put_answer (suc b.0) a rest u r.1 (sym (skip_at b rest a.0 ne) ∙ q))
  where
    ne : b.0 ≢ a.0
    ne = apart_from b rest a.0 q

    go : (c : Bool) → answer_in (put b rest) u ≡ answer_in (b ∷ rest) u
        → answer_in (put a rest) u ≡ answer_in (a ∷ rest) u
        → answer_in (if c then a ∷ put b rest else b ∷ put a rest) u ≡ answer_in (a ∷ b ∷ rest) u
    go true x y = ap (λ (o : Option Answer). if eqb a.0 u then Some a.1 else o) x
    go false x y = ap (λ (o : Option Answer). if eqb b.0 u then Some b.1 else o) y ∙ elim (eqb_tells a.0 u) [
      | inl p ↦ rw (p.0, eqb-other b.0 u (λ same. ne (same ∙ sym (p.1)))) refl
      | inr p ↦ rw p.0 refl
    ]

-- what a given answer makes of a ticket's
abbrev pub given_at : Option ℕ → Option Answer → ℕ → Option Answer → Option Answer
given_at (Some t) (Some a) u before = if eqb t u then Some a else before
given_at _ _ u before = before

-- the list has no answer for the ticket that gets one
abbrev pub IsFresh : Option ℕ → List (ℕ × Answer) → Type 0
IsFresh o pairs = (t : ℕ) → o ≡ Some t → answer_in pairs t ≡ None

pub give_rising : (o : Option ℕ) (a : Option Answer) (pairs : List (ℕ × Answer)) → IsRising 0 pairs → IsFresh o pairs → IsRising 0 (give o a pairs)
give_rising None a pairs r k = r
give_rising (Some t) None pairs r k = r
give_rising (Some t) (Some a) pairs r k = put_rising 0 (t, a) pairs r (omega arith) (k t refl)

pub give_answer : (o : Option ℕ) (a : Option Answer) (pairs : List (ℕ × Answer)) (u : ℕ) → IsRising 0 pairs
    → IsFresh o pairs → answer_in (give o a pairs) u ≡ given_at o a u (answer_in pairs u)
give_answer None a pairs u r k = refl
give_answer (Some t) None pairs u r k = refl
give_answer (Some t) (Some a) pairs u r k = put_answer 0 (t, a) pairs u r (k t refl)

-- a part by tickets of a rising list
pub filter_rising : (p : ℕ → Bool) (t : ℕ) (pairs : List (ℕ × Answer)) → IsRising t pairs → IsRising t (filter (λ a. p a.0) pairs)
filter_rising p t [] r = tt
filter_rising p t (a ∷ rest) r = go (p a.0) (filter_rising p (suc a.0) rest r.1)
  where
    go : (c : Bool) → IsRising (suc a.0) (filter (λ b. p b.0) rest) → IsRising t (if c then a ∷ filter (λ b. p b.0) rest else filter (λ b. p b.0) rest)
    go true k = (r.0, k)
    go false k = weaker t (suc a.0) (filter (λ b. p b.0) rest) (omega (arith, r.0)) k

pub filter_answer : (p : ℕ → Bool) (pairs : List (ℕ × Answer)) (u : ℕ) → answer_in (filter (λ a. p a.0) pairs) u ≡ (if p u then answer_in pairs u else None)
filter_answer p [] u = none (p u)
  where
    nothing : Option Answer
    nothing = None

    none : (c : Bool) → nothing ≡ (if c then nothing else nothing)
    none true = refl
    none false = refl
filter_answer p (a ∷ rest) u =
    elim (eqb_tells a.0 u) [
      | inl q ↦ here q.0 (p a.0) (p u) (ap p q.1) (filter_answer p rest u)
      | inr q ↦ rw q.0 (there q.0 (p a.0) (filter_answer p rest u))
    ]
  where
    here : eqb a.0 u ≡ true → (c d : Bool) → c ≡ d → answer_in (filter (λ b. p b.0) rest) u ≡ (if d then answer_in rest u else None)
        → answer_in (if c then a ∷ filter (λ b. p b.0) rest else filter (λ b. p b.0) rest) u ≡ (if d then (if eqb a.0 u then Some a.1 else answer_in rest u) else None)
    here q true true e k = rw q refl
    here q true false e k = absurd (true≢false e)
    here q false true e k = absurd (true≢false (sym e))
    here q false false e k = k

    there : eqb a.0 u ≡ false → (c : Bool) → answer_in (filter (λ b. p b.0) rest) u ≡ (if p u then answer_in rest u else None)
        → answer_in (if c then a ∷ filter (λ b. p b.0) rest else filter (λ b. p b.0) rest) u ≡ (if p u then answer_in rest u else None)
    there q true k = rw q k
    there q false k = k
