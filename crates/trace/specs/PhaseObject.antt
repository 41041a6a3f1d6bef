-- The object of an environment's phase.
use Rattle.std.specs.Prelude.{ℕ, Bool, true, false, ◌&&◌, ◌==◌, List, [], ◌∷◌, codes, Option, Some, None}
use Rattle.call_types.specs.Words.{reason_word}
use Rattle.call_types.specs.declared.answer.Phase.{Phase}
use Rattle.call_types.specs.declared.answer.Phase.TheVariants.{Starting, Idle, Busy, Closing, Off}
use Rattle.call_types.specs.declared.answer.Reason.{Reason}
use Rattle.call_types.specs.declared.answer.Reason.TheVariants.{Timeout, Failure, Spindown}
use Rattle.call_model.specs.Next.{deadline_of}
use Rattle.call_model.specs.Stand.{bound_of}
use Rattle.json.specs.Token.{Token}
use Rattle.trace.specs.Members.{object, text_member, number_member, number_if}

-- The ticket of the invocation that a Busy serves; `None` in any other phase.
abbrev pub served_by : Phase → Option ℕ
served_by (Busy p d) = Some p
served_by _ = None

-- The word for a phase.
abbrev pub phase_word : Phase → List ℕ
phase_word (Starting d bound) = codes "starting"
phase_word Idle = codes "idle"
phase_word (Busy p d) = codes "busy"
phase_word (Closing reason until bound) = codes "closing"
phase_word Off = codes "off"

-- The member with the reason of a Closing; none for any other phase.
abbrev pub reason_if : Phase → List Token
reason_if (Closing reason until bound) = text_member (codes "reason") (reason_word reason)
reason_if _ = []

-- The object of the phase of environment `e`: the ticket of the invocation that is bound to it, the moment at which the
-- phase ends by itself, and the ticket of the invocation that it serves, each if there is one.
unfoldable pub phase_object : ℕ → Phase → List Token
phase_object e phase =
    object (number_if (codes "bound") (bound_of phase) ∷ number_if (codes "deadline") (deadline_of phase)
    ∷ number_member (codes "environment") e ∷ number_if (codes "invoke") (served_by phase)
    ∷ text_member (codes "phase") (phase_word phase) ∷ reason_if phase ∷ [])

-- Whether two options are the same.
abbrev pub same_option : Option ℕ → Option ℕ → Bool
same_option None None = true
same_option (Some a) (Some b) = a == b
same_option _ _ = false

-- Whether two reasons are the same.
abbrev pub same_reason : Reason → Reason → Bool
same_reason Timeout Timeout = true
same_reason Failure Failure = true
same_reason Spindown Spindown = true
same_reason _ _ = false

-- Whether two phases are the same, with all that they have.
abbrev pub same_phase : Phase → Phase → Bool
same_phase (Starting d bound) (Starting e other) = same_option d e && same_option bound other
same_phase Idle Idle = true
same_phase (Busy p d) (Busy q e) = (p == q) && (d == e)
same_phase (Closing reason until bound) (Closing cause later other) =
    same_reason reason cause && (until == later) && same_option bound other
same_phase Off Off = true
same_phase _ _ = false
