-- Answers put in their places among others.
use Rattle.std.proofs.Common.{◌≡◌, ◌≢◌, ℕ, suc, ◌<◌, ◌≤◌, true, List, [], ◌∷◌, ◌++◌, Option, None, is_some, sym, refl, ap, ◌∙◌, arith, inl, inr, true≢false}
use Rattle.std.proofs.lemmas.Bool.{cases_lt}
use Rattle.std.proofs.lemmas.Bool.Decides.{eqb_tells}
use Rattle.call_types.specs.declared.answer.Answer.{Answer}
use Rattle.call_model.specs.History.{answer_in, or_else}
use Rattle.environment_step.specs.After.{put}
use Rattle.call_model.proofs.Basics.{some-none}
use Rattle.environment_step.proofs.Puts.{put_rising, put_answer}
use Rattle.environment_step.proofs.Rising.{IsRising, rising_none, some_at, skip_at}
use Rattle.account_book.specs.Fleets.{put_all}

-- no ticket has an answer in both
abbrev pub AreApart : List (ℕ × Answer) → List (ℕ × Answer) → Type 0
AreApart moves answers = (u : ℕ) → is_some (answer_in moves u) ≡ true → answer_in answers u ≡ None

head_apart : (a : ℕ × Answer) (rest answers : List (ℕ × Answer)) → AreApart (a ∷ rest) answers → answer_in answers a.0 ≡ None
head_apart a rest answers k = k a.0 (ap is_some (some_at a rest a.0 refl))

rest_apart : (t : ℕ) (a : ℕ × Answer) (rest answers : List (ℕ × Answer)) → IsRising t (a ∷ rest) → IsRising 0 answers
    → AreApart (a ∷ rest) answers → AreApart rest (put a answers)
rest_apart t a rest answers r s k u q =
    elim (eqb_tells a.0 u) [
      | inl same ↦ absurd (true≢false (sym q ∙ ap is_some (rising_none (suc a.0) u rest r.1 (let e : a.0 ≡ u = same.1 in omega (arith, e)))))
      | inr other ↦ put_answer 0 a answers u s (head_apart a rest answers k) ∙ skip_at a answers u other.1 ∙ k u (ap is_some (skip_at a rest u other.1) ∙ q)
    ]

pub merge_rising : (t : ℕ) (moves answers : List (ℕ × Answer)) → IsRising t moves → IsRising 0 answers
    → AreApart moves answers → IsRising 0 (put_all moves answers)
merge_rising t [] answers r s k = s
merge_rising t (a ∷ rest) answers r s k =
    merge_rising (suc a.0) rest (put a answers) r.1 (put_rising 0 a answers s (omega arith) (head_apart a rest answers k)) (rest_apart t a rest answers r s k)

pub merge_answer : (t : ℕ) (moves answers : List (ℕ × Answer)) (u : ℕ) → IsRising t moves → IsRising 0 answers
    → AreApart moves answers → answer_in (put_all moves answers) u ≡ or_else (answer_in moves u) (answer_in answers u)
merge_answer t [] answers u r s k = refl
merge_answer t (a ∷ rest) answers u r s k =
    merge_answer (suc a.0) rest (put a answers) u r.1 (put_rising 0 a answers s (omega arith) (head_apart a rest answers k)) (rest_apart t a rest answers r s k)
    ∙ ap (or_else (answer_in rest u)) (put_answer 0 a answers u s (head_apart a rest answers k))
    ∙ elim (eqb_tells a.0 u) [
      | inl same ↦ ap (λ (o : Option Answer). or_else o (answer_in (a ∷ answers) u)) (rising_none (suc a.0) u rest r.1 (let e : a.0 ≡ u = same.1 in omega (arith, e)))
          ∙ some_at a answers u same.1
          ∙ ap (λ (o : Option Answer). or_else o (answer_in answers u)) (sym (some_at a rest u same.1))
      | inr other ↦ ap (or_else (answer_in rest u)) (skip_at a answers u other.1)
          ∙ ap (λ (o : Option Answer). or_else o (answer_in answers u)) (sym (skip_at a rest u other.1))
    ]

-- an answer to a greater ticket behind them
pub last_rising : (t n : ℕ) (a : Answer) (xs : List (ℕ × Answer)) → IsRising t xs → t ≤ n
    → ((u : ℕ) → n ≤ u → answer_in xs u ≡ None) → IsRising t (xs ++ (n, a) ∷ [])
last_rising t n a [] r le none = (le, tt)
last_rising t n a (b ∷ rest) r le none = (r.0, last_rising (suc b.0) n a rest r.1 (below b rest none) (λ u ge. sym (skip_at b rest u (other u ge)) ∙ none u ge))
  where
    below : (b : ℕ × Answer) (rest : List (ℕ × Answer)) → ((u : ℕ) → n ≤ u → answer_in (b ∷ rest) u ≡ None) → b.0 < n
    below b rest free = elim (cases_lt b.0 n) [ inl lt ↦ lt | inr ge ↦ absurd (some-none (sym (some_at b rest b.0 refl) ∙ free b.0 ge)) ]

    other : (u : ℕ) → n ≤ u → b.0 ≢ u
    other u ge same = some-none (sym (some_at b rest u same) ∙ none u ge)

pub last_answer : (n : ℕ) (a : Answer) (xs : List (ℕ × Answer)) (u : ℕ) → answer_in xs n ≡ None
    → answer_in (xs ++ (n, a) ∷ []) u ≡ or_else (answer_in xs u) (answer_in ((n, a) ∷ []) u)
last_answer n a [] u none = refl
last_answer n a (b ∷ rest) u none =
    elim (eqb_tells b.0 u) [
      | inl same ↦ some_at b (rest ++ (n, a) ∷ []) u same.1 ∙ ap (λ (o : Option Answer). or_else o (answer_in ((n, a) ∷ []) u)) (sym (some_at b rest u same.1))
      | inr other ↦ skip_at b (rest ++ (n, a) ∷ []) u other.1
          ∙ last_answer n a rest u (sym (skip_at b rest n (λ same. some-none (sym (some_at b rest n same) ∙ none))) ∙ none)
          ∙ ap (λ (o : Option Answer). or_else o (answer_in ((n, a) ∷ []) u)) (sym (skip_at b rest u other.1))
    ]
