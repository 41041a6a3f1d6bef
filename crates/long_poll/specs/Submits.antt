-- The result of a submit to an account.
use Rattle.std.specs.Prelude.{ℕ, ◌≡◌, List, Option, Result, Ok, Err}
use Rattle.call_types.specs.declared.answer.Answer.{Answer}
use Rattle.arn_ids.specs.declared.config.Config.{Config}
use Rattle.call_types.specs.declared.call.Call.{Call}
use Rattle.call_types.specs.declared.call.Entry.{Entry}
use Rattle.call_types.specs.declared.head.Head.{Head}
use Rattle.usage_ledger.specs.Keeping.{Kept}
use Rattle.usage_ledger.specs.Tallies.{Held}
use Rattle.account_lock.specs.Submits.{IsTurnedAway, Took}
use Rattle.account_lock.specs.declared.desk.Refused.{Refused}

-- The result of a call that was taken, and of one that was refused, by what the caller had seen of the history (`had`)
-- and has seen afterwards (`then`). The token that is returned with the ticket has seen as much.
abbrev pub Submits : {B : Type 0} → Config → ℕ → (Kept → ℕ → Answer → Kept → Type 0)
    → (Kept → ℕ → Head → Kept → Type 0)
    → List Entry → Held → ℕ → Call → Option B → Result (ℕ × List Entry) (Refused B) → List Entry → Held → Type 0
Submits config most notes makes had before now call bell (Ok taken) then after =
    Took config most notes makes had before now call taken.0 taken.1 after × (then ≡ taken.1)
Submits config most notes makes had before now call bell (Err refused) then after =
    (refused.bell ≡ bell) × (after ≡ before) × IsTurnedAway config most had call refused.refusal then
