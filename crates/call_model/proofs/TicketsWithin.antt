-- Tickets of a history: an entry's answers are to them, and beyond them stands no call.
use Rattle.std.proofs.Common.{ℕ, ◌≤◌, List, [], ◌∷◌, ◌≡◌, ◌<◌, None, refl, arith, zero, suc, ◌+◌, Option, Some, Bool}
use Rattle.std.proofs.Common.{true, false, filter, if◌then◌else◌, length, sym, subst}
use Rattle.call_types.specs.declared.answer.Answer.{Answer}
use Rattle.call_types.specs.declared.call.Call.{Call}
use Rattle.call_types.specs.declared.call.Call.TheVariants.{Expire}
use Rattle.call_types.specs.declared.call.Entry.{Entry}
use Rattle.arn_ids.specs.declared.config.Config.{Config}
use Rattle.call_model.specs.History.{answer_in, call_of}
use Rattle.call_model.specs.Answers.{with_answer, each_from, numbered, answers, first_entry, answer_to}
use Rattle.call_model.specs.Limits.{place_for}
use Rattle.call_model.specs.Next.{Follows}
use Rattle.call_model.proofs.Pairs.{eqb-other}

-- the answers are to tickets up to n
abbrev pub IsWithin : ℕ → List (ℕ × Answer) → Type 0
IsWithin n [] = Unit {0}
IsWithin n (a ∷ rest) = (a.0 ≤ n) × IsWithin n rest

pub within_none : (n t : ℕ) (pairs : List (ℕ × Answer)) → IsWithin n pairs → n < t → answer_in pairs t ≡ None
within_none n t [] w lt = refl
within_none n t (a ∷ rest) w lt = rw (eqb-other a.0 t (omega (arith, w.0, lt))) (within_none n t rest w.1 lt)

pub each_within : (n t m : ℕ) (f : ℕ → Option Answer) → t + m ≤ suc n → IsWithin n (each_from t m f)
each_within n t zero f le = tt
each_within n t (suc m) f le = go (f t) (each_within n (suc t) m f (omega (arith, le)))
  where
    go : (a : Option Answer) → IsWithin n (each_from (suc t) m f) → IsWithin n (with_answer t a (each_from (suc t) m f))
    go None r = r
    go (Some a) r = (omega (arith, le), r)

pub numbered_within : (n : ℕ) (h : List Entry) (entry : Entry) (before pairs : List (ℕ × Answer)) → IsWithin n pairs
    → IsWithin n (numbered h entry before pairs)
numbered_within n h entry before [] w = tt
numbered_within n h entry before (a ∷ rest) w = (w.0, numbered_within n h entry (a ∷ before) rest w.1)

pub filter_within : (n : ℕ) (p : ℕ × Answer → Bool) (pairs : List (ℕ × Answer)) → IsWithin n pairs → IsWithin n (filter p pairs)
filter_within n p [] w = tt
filter_within n p (a ∷ rest) w = go (p a) (filter_within n p rest w.1)
  where
    go : (b : Bool) → IsWithin n (filter p rest) → IsWithin n (if b then a ∷ filter p rest else filter p rest)
    go true r = (w.0, r)
    go false r = r

pub answers_within : (config : Config) (h : List Entry) (now : ℕ) (call : Call) → IsWithin (length h) (answers config h now call)
unfolding answers
answers_within config h now call =
    numbered_within (length h) h (first_entry config h now call) [] _
    (each_within (length h) 0 (suc (length h)) (answer_to config h (first_entry config h now call)) (omega arith))

-- what is used of the newest entry: it may lack its second answers
pub record IsFit (config : Config) (h : List Entry) (entry : Entry) : Type 0 where
  pub placed : entry.place ≡ place_for config h entry.call
  pub within : IsWithin (length h) entry.answers

pub legal_fit : (config : Config) (h : List Entry) (entry : Entry) → Follows config h entry → IsFit config h entry
legal_fit config h entry w =
    record { placed = w.place; within = subst (IsWithin (length h)) (sym (w.answers)) (answers_within config h entry.moment entry.call) }

pub call_past : (h : List Entry) (t : ℕ) → length h ≤ t → call_of h t ≡ Expire 0
call_past [] t le = refl
call_past (entry ∷ h) t le = rw (eqb-other t (length h) (omega (arith, le))) (call_past h t (omega (arith, le)))
