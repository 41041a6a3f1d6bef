-- A call gives nothing to tickets elsewhere, and leaves the life of an environment that it doesn't concern.
use Rattle.std.proofs.Common.{◌≡◌, ℕ, ◌<◌, false, List, ◌∷◌, length, Some, None, refl, ap, ◌∙◌, arith, ◌≢◌}
use Rattle.call_types.specs.declared.answer.Phase.{Phase}
use Rattle.call_types.specs.declared.answer.Phase.TheVariants.{Starting, Idle, Busy, Closing, Off}
use Rattle.call_types.specs.declared.call.Call.{Call}
use Rattle.call_types.specs.declared.call.Entry.{Entry}
use Rattle.arn_ids.specs.declared.config.Config.{Config}
use Rattle.call_model.specs.History.{answer_in}
use Rattle.call_model.specs.Life.{Lifecycle, life, phase, lived, concerns, names}
use Rattle.call_model.specs.Stand.{is_number}
use Rattle.call_model.specs.Polls.{begun}
use Rattle.call_model.specs.Answers.{answers, first_answer, second_answer, first_entry, home}
use Rattle.call_model.proofs.Pairs.{eqb-other, is_some_none}
use Rattle.call_model.proofs.Once.{answers_at}
use Rattle.std.proofs.lemmas.Bool.{or_parts}

-- nothing begins where the phase stays
pub begun_same : (phase : Phase) → begun phase phase ≡ None
begun_same (Starting d bound) = refl
begun_same Idle = refl
begun_same (Busy p d) = refl
begun_same (Closing reason until bound) = refl
begun_same Off = refl

-- an entry that doesn't concern an environment leaves its life as it was
pub life_elsewhere : (config : Config) (h : List Entry) (entry : Entry) (e : ℕ) → concerns h e entry ≡ false → life config (entry ∷ h) e ≡ life config h e
unfolding life lived
life_elsewhere config h entry e c = rw c refl

-- a call gives nothing to an older ticket of an environment that its entry doesn't concern
pub elsewhere : (config : Config) (h : List Entry) (now : ℕ) (call : Call) (t e : ℕ) → t < length h → home h t ≡ Some e
    → concerns h e (first_entry config h now call) ≡ false → answer_in (answers config h now call) t ≡ None
unfolding first_answer second_answer
elsewhere config h now call t e lt at c =
    is_some_none _ (answers_at config h now call t (omega arith) ∙ rw (first, second) refl)
  where
    ne : t ≢ length h
    ne = omega arith

    still_same : begun (phase config h e) (phase config (first_entry config h now call ∷ h) e) ≡ None
    still_same =
        ap (λ (l : Lifecycle). begun (phase config h e) l.phase) (life_elsewhere config h (first_entry config h now call) e c) ∙ begun_same (phase config h e)

    first : first_answer config h now call t ≡ None
    first = rw (eqb-other t (length h) ne, at, (or_parts (is_number (first_entry config h now call).place e) (names h e call) c).1) refl

    second : second_answer config h (first_entry config h now call) t ≡ None
    second = rw (eqb-other t (length h) ne, at, still_same) refl

-- a ticket with no environment gets nothing
pub nowhere : (config : Config) (h : List Entry) (now : ℕ) (call : Call) (t : ℕ) → t < length h → home h t ≡ None
    → answer_in (answers config h now call) t ≡ None
unfolding first_answer second_answer
nowhere config h now call t lt at =
    is_some_none _ (answers_at config h now call t (omega arith) ∙ rw (first, second) refl)
  where
    ne : t ≢ length h
    ne = omega arith

    first : first_answer config h now call t ≡ None
    first = rw (eqb-other t (length h) ne, at) refl

    second : second_answer config h (first_entry config h now call) t ≡ None
    second = rw (eqb-other t (length h) ne, at) refl
