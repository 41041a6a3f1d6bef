-- The result of a call that is submitted to an account.
use Rattle.std.specs.Prelude.{◌≡◌, ◌+◌, ◌↔◌, ℕ, true, false, List, Option}
use Rattle.account_book.specs.Premature.{premature}
use Rattle.account_book.specs.declared.book.Refusal.{Refusal}
use Rattle.account_book.specs.declared.book.Refusal.TheVariants.{JournalFull}
use Rattle.arn_ids.specs.declared.config.Config.{Config}
use Rattle.call_model.specs.Counts.{full}
use Rattle.call_types.specs.declared.answer.Answer.{Answer}
use Rattle.call_types.specs.declared.call.Call.{Call}
use Rattle.call_types.specs.declared.call.Entry.{Entry}
use Rattle.call_types.specs.declared.head.Head.{Head}
use Rattle.usage_ledger.specs.Keeping.{Kept}
use Rattle.usage_ledger.specs.Tallies.{Held}
use Rattle.account_lock.specs.Shown.{IsTaken, Sees}
use Rattle.account_lock.specs.Tallying.{HasPartsOf, KeepsCall}
use Rattle.account_lock.specs.declared.desk.unless_premature.NotTaken.{NotTaken}
use Rattle.account_lock.specs.declared.desk.unless_premature.NotTaken.TheVariants.{Premature, Refused}

-- A call was taken from a caller that had seen the history `had`, and whose tally held `before`: the call is in the
-- history at its ticket. The tally counts one call more, has the same parts, and has noted some answers and then the
-- head of this call at its ticket.
pub record Took (config : Config) (most : ℕ) (notes : Kept → ℕ → Answer → Kept → Type 0)
    (makes : Kept → ℕ → Head → Kept → Type 0) (had : List Entry) (before : Held) (now : ℕ) (call : Call) (ticket : ℕ)
    (h : List Entry) (after : Held) : Type 0 where
  pub taken : IsTaken config most had now call ticket h
  pub counted : after.counts.calls ≡ before.counts.calls + 1
  pub parts : HasPartsOf before after
  pub keeps : KeepsCall notes makes before call ticket after

-- A call was refused to a caller that has then seen this history: the refusal is JournalFull exactly if the history
-- has no room for the call.
pub record IsTurnedAway (config : Config) (most : ℕ) (had : List Entry) (call : Call) (refusal : Refusal)
    (h : List Entry) : Type 0 where
  pub sees : Sees config most had h
  pub exactly : (refusal ≡ JournalFull) ↔ (full config most h call ≡ true)

-- A call was not taken that is taken unless it is premature, and its caller has then seen this history: the
-- call is premature there, and is returned with its bell; or it is not premature, and was refused, and its bell is
-- returned.
abbrev pub IsNotTaken : {B : Type 0} → Config → ℕ → List Entry → ℕ → Call → Option B → NotTaken B → List Entry
    → Type 0
IsNotTaken config most had now call bell (Premature other back) h =
    (other ≡ call) × (back ≡ bell) × Sees config most had h × (premature config h now call ≡ true)
IsNotTaken config most had now call bell (Refused refused) h =
    (refused.bell ≡ bell) × IsTurnedAway config most had call refused.refusal h
    × (premature config h now call ≡ false)
