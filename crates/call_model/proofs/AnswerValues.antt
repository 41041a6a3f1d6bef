-- What an entry answers, up to the numbers of its events.
use Rattle.std.proofs.Common.{◌≡◌, ℕ, suc, ◌≤◌, List, [], ◌∷◌, length, Option, Some, None, refl, ap, ◌∙◌, arith, inl, inr}
use Rattle.call_types.specs.declared.answer.Answer.{Answer}
use Rattle.call_types.specs.declared.answer.Answer.TheVariants.{Told, Ending}
use Rattle.call_types.specs.declared.call.Call.{Call}
use Rattle.call_types.specs.declared.call.Entry.{Entry}
use Rattle.arn_ids.specs.declared.config.Config.{Config}
use Rattle.call_model.specs.History.{answer_in, call_of, or_else}
use Rattle.call_types.specs.Calls.{env_of}
use Rattle.call_model.specs.Answers.{answers, first_answer, second_answer, first_entry, first_answers, answer_to, each_from, with_event, numbered, event_at}
use Rattle.std.proofs.lemmas.Bool.Decides.{eqb_tells}
use Rattle.call_model.proofs.Pairs.{in_each}

abbrev pub seen_by : {B : Type 0} → (Answer → B) → B → Option Answer → B
seen_by q none None = none
seen_by q none (Some a) = q a

-- numbering keeps what doesn't depend on the event's number
pub numbered_keeps : {B : Type 0} (q : Answer → B) → ((n : ℕ) (a : Answer) → q (with_event n a) ≡ q a)
    → (none : B) (h : List Entry) (entry : Entry) (before pairs : List (ℕ × Answer)) (t : ℕ)
    → seen_by q none (answer_in (numbered h entry before pairs) t) ≡ seen_by q none (answer_in pairs t)
numbered_keeps q keeps none h entry before [] t = refl
numbered_keeps q keeps none h entry before (a ∷ rest) t =
    elim (eqb_tells a.0 t) [
      | inl p ↦ rw p.0 (one (env_of (call_of (entry ∷ h) a.0)))
      | inr p ↦ rw p.0 (numbered_keeps q keeps none h entry (a ∷ before) rest t)
    ]
  where
    one : (o : Option ℕ) → q (event_at h entry before o a.1) ≡ q a.1
    one None = refl
    one (Some e) = keeps _ a.1

-- an answer without the number of its event
abbrev pub stripped : Answer → Option Answer
stripped a = Some (with_event 0 a)

abbrev pub plain : Option Answer → Option Answer
plain o = seen_by stripped None o

strip_again : (n : ℕ) (a : Answer) → stripped (with_event n a) ≡ stripped a
strip_again n (Told p d event) = refl
strip_again n (Ending reason until event) = refl
strip_again n a = refl

-- the answer of a ticket in the entry that a call makes
pub valued : (config : Config) (h : List Entry) (now : ℕ) (call : Call) (t : ℕ) → t ≤ length h
    → plain (answer_in (answers config h now call) t) ≡ plain (or_else (first_answer config h now call t) (second_answer config h (first_entry config h now call) t))
unfolding answers answer_to first_answers
valued config h now call t le =
    numbered_keeps stripped strip_again None h entry [] (each_from 0 (suc (length h)) (answer_to config h entry)) t
    ∙ ap plain (in_each 0 (suc (length h)) t (answer_to config h entry) (omega arith) (omega (arith, le))
    ∙ ap (λ a. or_else a (second_answer config h entry t)) (in_each 0 (suc (length h)) t (first_answer config h now call) (omega arith) (omega (arith, le))))
  where
    entry : Entry
    entry = first_entry config h now call
