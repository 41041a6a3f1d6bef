-- What an entry answers first: its answers without those of a Busy that begins, up to the numbers of its events.
use Rattle.std.proofs.Common.{◌≡◌, ℕ, suc, ◌≤◌, Bool, true, false, List, [], ◌∷◌, length, Option, Some, None, sym, refl}
use Rattle.std.proofs.Common.{ap, ◌∙◌, subst, arith, is_none, not, filter, if◌then◌else◌, true≢false}
use Rattle.call_types.specs.declared.answer.Answer.{Answer}
use Rattle.call_types.specs.declared.answer.Answer.TheVariants.{Delivered, Told, Ending}
use Rattle.call_types.specs.declared.call.Call.{Call}
use Rattle.call_types.specs.declared.call.Call.TheVariants.{Register}
use Rattle.call_types.specs.declared.call.Entry.{Entry}
use Rattle.arn_ids.specs.declared.config.Config.{Config}
use Rattle.call_model.specs.History.{answer_in, or_else}
use Rattle.call_model.specs.Generation.{is_ending, is_accepted, as_registered}
use Rattle.call_model.specs.Stand.{Role, NoRole, Waiting, RuntimePoll, ExtensionPoll, role}
use Rattle.call_model.specs.Polls.{delivered, begun}
use Rattle.call_model.specs.Life.{is_second, first_part, stand, phase}
use Rattle.call_model.specs.Answers.{answers, first_answer, second_answer, first_entry, first_answers, answer_to, each_from, with_event, home, second_at}
use Rattle.call_model.specs.Next.{Follows}
use Rattle.call_model.proofs.Pairs.{in_each}
use Rattle.call_model.proofs.AnswerValues.{plain, valued}
use Rattle.environment_step.proofs.Rising.{IsRising, each_rising, numbered_rising, rising_filter, passed}
use Rattle.call_model.proofs.FirstAnswers.{second, first_first}

pub first_valued : (config : Config) (h : List Entry) (now : ℕ) (call : Call) (t : ℕ) → t ≤ length h
    → answer_in (first_entry config h now call).answers t ≡ first_answer config h now call t
unfolding first_answers
first_valued config h now call t le = in_each 0 (suc (length h)) t (first_answer config h now call) (omega arith) (omega (arith, le))

-- what is no second answer
abbrev pub early : Answer → Bool
early a = not (is_second a)

abbrev pub is_early : Option Answer → Bool
is_early None = true
is_early (Some a) = early a

-- No first answer is a Delivered or a Told.
pub first_early : (config : Config) (h : List Entry) (now : ℕ) (call : Call) (t : ℕ) → is_early (first_answer config h now call t) ≡ true
first_early config h now call t = no_second (first_answer config h now call t) (first_first config h now call t)
  where
    no_second : (o : Option Answer) → second o ≡ false → is_early o ≡ true
    no_second None q = refl
    no_second (Some (Delivered p d)) q = absurd (true≢false q)
    no_second (Some (Told p d event)) q = absurd (true≢false q)
    no_second (Some a) q = refl

abbrev pub is_late : Option Answer → Bool
is_late None = true
is_late (Some a) = is_second a

late_delivered : (b : Option (ℕ × ℕ)) (r : Role) → is_late (delivered b r) ≡ true
late_delivered None r = refl
late_delivered (Some b) RuntimePoll = refl
late_delivered (Some b) (ExtensionPoll x) = go x.extension.invoke
  where
    go : (c : Bool) → is_late (if c then Some (Told b.0 b.1 0) else None) ≡ true
    go true = refl
    go false = refl
late_delivered (Some b) NoRole = refl
late_delivered (Some b) Waiting = refl

-- Each second answer is one.
pub second_late : (config : Config) (h : List Entry) (entry : Entry) (t : ℕ) → is_late (second_answer config h entry t) ≡ true
unfolding second_answer
second_late config h entry t = go (home (entry ∷ h) t)
  where
    go : (o : Option ℕ) → is_late (second_at config h entry t o) ≡ true
    go None = refl
    go (Some e) = late_delivered (begun (phase config h e) (phase config (entry ∷ h) e)) (role (stand config (entry ∷ h) e) t)

-- An answer that is early, as the first answers have it.
pub kept : (o a b : Option Answer) → plain o ≡ plain (or_else a b) → is_early a ≡ true → is_late b ≡ true → plain (passed early o) ≡ plain a
kept o a b q e l =
    from (passed early o) (passed early (or_else a b)) (plain_passed o ∙ ap (passed early) q ∙ sym (plain_passed (or_else a b))) ∙ ap plain (only a b e l)
  where
    from : (x y : Option Answer) → plain x ≡ plain y → plain x ≡ plain y
    from x y k = k

    strip_early : (c : Answer) → early (with_event 0 c) ≡ early c
    strip_early (Told p d event) = refl
    strip_early (Ending reason until event) = refl
    strip_early c = refl

    plain_if : (c : Bool) (x : Answer) → plain (if c then Some x else None) ≡ (if c then Some (with_event 0 x) else None)
    plain_if true x = refl
    plain_if false x = refl

    plain_passed : (x : Option Answer) → plain (passed early x) ≡ passed early (plain x)
    plain_passed None = refl
    plain_passed (Some c) = plain_if (early c) c ∙ ap (λ (d : Bool). if d then Some (with_event 0 c) else None) (sym (strip_early c))

    only : (x y : Option Answer) → is_early x ≡ true → is_late y ≡ true → passed early (or_else x y) ≡ x
    only (Some c) y e l = ap (λ (d : Bool). if d then Some c else None) e
    only None None e l = refl
    only None (Some d) e l = ap (λ (b : Bool). if not b then Some d else None) l

-- The first answers of the entry are those of the table.
pub entry_first : (config : Config) (h : List Entry) (entry : Entry) (t : ℕ) → Follows config h entry → t ≤ length h
    → plain (answer_in (first_part entry).answers t) ≡ plain (first_answer config h entry.moment entry.call t)
unfolding answers
entry_first config h entry t w le =
    ap plain
    (rising_filter early 0 t entry.answers (subst (IsRising 0) (sym (w.answers)) (numbered_rising h first [] (each_from 0 (suc (length h)) (answer_to config h first)) 0 (each_rising 0 (suc (length h)) (answer_to config h first)))))
    ∙ kept (answer_in entry.answers t) (first_answer config h entry.moment entry.call t)
    (second_answer config h first t)
    (ap (λ xs. plain (answer_in xs t)) (w.answers) ∙ valued config h entry.moment entry.call t le)
    (first_early config h entry.moment entry.call t) (second_late config h first t)
  where
    first : Entry
    first = first_entry config h entry.moment entry.call

-- an entry whose first answers are those of A
pub record IsFirst (n : ℕ) (A : ℕ → Option Answer) (entry : Entry) : Type 0 where
  pub first : (t : ℕ) → t ≤ n → plain (answer_in (first_part entry).answers t) ≡ plain (A t)
  pub part : (t : ℕ) → answer_in (first_part entry).answers t ≡ passed early (answer_in entry.answers t)

pub entry_is_first : (config : Config) (h : List Entry) (entry : Entry) → Follows config h entry
    → IsFirst (length h) (first_answer config h entry.moment entry.call) entry
unfolding answers
entry_is_first config h entry w = record {
  first = λ t le. entry_first config h entry t w le;
  part =
      λ t. rising_filter early 0 t entry.answers (subst (IsRising 0) (sym (w.answers)) (numbered_rising h first [] (each_from 0 (suc (length h)) (answer_to config h first)) 0 (each_rising 0 (suc (length h)) (answer_to config h first))));
}
  where
    first : Entry
    first = first_entry config h entry.moment entry.call

pub first_is_first : (config : Config) (h : List Entry) (now : ℕ) (call : Call)
    → IsFirst (length h) (first_answer config h now call) (first_entry config h now call)
unfolding first_answers
first_is_first config h now call = record {
  first =
      λ t le. ap plain (filtered t ∙ ap (passed early) (first_valued config h now call t le) ∙ whole (first_answer config h now call t) (first_early config h now call t));
  part = filtered;
}
  where
    filtered : (t : ℕ)
        → answer_in (filter (λ a. early a.1) (first_entry config h now call).answers) t ≡ passed early (answer_in (first_entry config h now call).answers t)
    filtered t = rising_filter early 0 t (first_entry config h now call).answers (each_rising 0 (suc (length h)) (first_answer config h now call))

    whole : (o : Option Answer) → is_early o ≡ true → passed early o ≡ o
    whole None e = refl
    whole (Some a) e = ap (λ (b : Bool). if b then Some a else None) e

-- what a test of an answer needs not know
pub plain_none : (a b : Option Answer) → plain a ≡ plain b → is_none a ≡ is_none b
plain_none None None e = refl
plain_none None (Some b) e = absurd (cc)
plain_none (Some a) None e = absurd (cc)
plain_none (Some a) (Some b) e = refl

pub ending_plain : (a : Option Answer) → is_ending (plain a) ≡ is_ending a
ending_plain None = refl
ending_plain (Some (Ending reason until event)) = refl
ending_plain (Some (Told p d event)) = refl
ending_plain (Some a) = refl

pub accepted_plain : (a : Option Answer) → is_accepted (plain a) ≡ is_accepted a
accepted_plain None = refl
accepted_plain (Some (Ending reason until event)) = refl
accepted_plain (Some (Told p d event)) = refl
accepted_plain (Some a) = refl

ending_passed : (a : Option Answer) → is_ending (passed early a) ≡ is_ending a
ending_passed None = refl
ending_passed (Some (Told p d event)) = refl
ending_passed (Some (Delivered p d)) = refl
ending_passed (Some a) = refl

accepted_passed : (a : Option Answer) → is_accepted (passed early a) ≡ is_accepted a
accepted_passed None = refl
accepted_passed (Some (Told p d event)) = refl
accepted_passed (Some (Delivered p d)) = refl
accepted_passed (Some a) = refl

pub first_ending : (n : ℕ) (A : ℕ → Option Answer) (entry : Entry) (t : ℕ) → IsFirst n A entry → t ≤ n → is_ending (answer_in entry.answers t) ≡ is_ending (A t)
first_ending n A entry t k le =
    sym (ending_passed (answer_in entry.answers t)) ∙ ap is_ending (sym (k.part t))
    ∙ sym (ending_plain (answer_in (first_part entry).answers t)) ∙ ap is_ending (k.first t le) ∙ ending_plain (A t)

pub first_accepted : (n : ℕ) (A : ℕ → Option Answer) (entry : Entry) (t : ℕ) → IsFirst n A entry → t ≤ n
    → is_accepted (answer_in entry.answers t) ≡ is_accepted (A t)
first_accepted n A entry t k le =
    sym (accepted_passed (answer_in entry.answers t)) ∙ ap is_accepted (sym (k.part t))
    ∙ sym (accepted_plain (answer_in (first_part entry).answers t)) ∙ ap is_accepted (k.first t le)
    ∙ accepted_plain (A t)

registered_plain : (call : Call) (a : Option Answer) → as_registered call (plain a) ≡ as_registered call a
registered_plain (Register e name invoke shutdown account) None = refl
registered_plain (Register e name invoke shutdown account) (Some (Told p d event)) = refl
registered_plain (Register e name invoke shutdown account) (Some (Ending reason until event)) = refl
registered_plain (Register e name invoke shutdown account) (Some a) = refl
registered_plain call a = refl

registered_passed : (call : Call) (a : Option Answer) → as_registered call (passed early a) ≡ as_registered call a
registered_passed (Register e name invoke shutdown account) None = refl
registered_passed (Register e name invoke shutdown account) (Some (Told p d event)) = refl
registered_passed (Register e name invoke shutdown account) (Some (Delivered p d)) = refl
registered_passed (Register e name invoke shutdown account) (Some a) = refl
registered_passed call a = refl

pub first_registered : (n : ℕ) (A : ℕ → Option Answer) (entry : Entry) (t : ℕ) (call : Call) → IsFirst n A entry → t ≤ n
    → as_registered call (answer_in entry.answers t) ≡ as_registered call (A t)
first_registered n A entry t call k le =
    sym (registered_passed call (answer_in entry.answers t)) ∙ ap (as_registered call) (sym (k.part t))
    ∙ sym (registered_plain call (answer_in (first_part entry).answers t)) ∙ ap (as_registered call) (k.first t le)
    ∙ registered_plain call (A t)
