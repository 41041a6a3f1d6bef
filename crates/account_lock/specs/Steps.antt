-- What a call changes in a desk, and what is returned of a call that the desk does not take.
use Rattle.std.specs.Prelude.{◌≡◌, ◌+◌, ◌↔◌, ℕ, true, false, Option, length}
use Rattle.account_book.specs.declared.book.Refusal.TheVariants.{JournalFull}
use Rattle.call_types.specs.declared.answer.Answer.{Answer}
use Rattle.call_types.specs.declared.call.Call.{Call}
use Rattle.call_types.specs.declared.head.Head.{Head}
use Rattle.call_types.specs.Heads.{head_of}
use Rattle.usage_ledger.specs.Keeping.{Kept, Steps}
use Rattle.usage_ledger.specs.Tallies.{Held}
use Rattle.account_lock.specs.Bells.{given}
use Rattle.account_lock.specs.Desks.{Opened, added_to, after_step, is_premature, handed_out, held_after, is_full}
use Rattle.account_lock.specs.declared.desk.Refused.{Refused as TheRefused}
use Rattle.account_lock.specs.declared.desk.Step.{Step}
use Rattle.account_lock.specs.declared.desk.unless_premature.NotTaken.{NotTaken}
use Rattle.account_lock.specs.declared.desk.unless_premature.NotTaken.TheVariants.{Premature, Refused}

-- A desk took a call at a moment, with this bell, from a caller whose tally held `had`. The book had room for the
-- call, and has taken it; the newest entry is the call's, at its ticket. The bells of the tickets that were answered
-- are handed out, in the order of the answers, and the others stay. The tally has counted what the new entries count,
-- and has noted their answers in order, and then the head of the call.
pub record IsStep {B : Type 0} (notes : Kept → ℕ → Answer → Kept → Type 0) (makes : Kept → ℕ → Head → Kept → Type 0)
    (desk : Opened B) (had : Held) (now : ℕ) (call : Call) (bell : Option B) (step : Step B) (after : Opened B)
    (held : Held) : Type 0 where
  pub room : is_full desk.book call ≡ false
  pub taken : after ≡ after_step desk now call step.ticket bell
  pub newest : step.ticket + 1 ≡ length after.book.history
  pub rings : step.rings ≡ handed_out desk now call step.ticket bell
  pub counts : held ≡ held_after (added_to desk.book now call) had held.kept
  pub keeps : (between : Kept) × Steps notes had.kept (given (added_to desk.book now call)) between
      × makes between step.ticket (head_of call) held.kept

-- A desk refused a call: its bell is returned, and the refusal is JournalFull exactly if the book has no room for the
-- call.
abbrev pub IsRefusal : {B : Type 0} → Opened B → Call → Option B → TheRefused B → Type 0
IsRefusal desk call bell back =
    (back.bell ≡ bell) × ((back.refusal ≡ JournalFull) ↔ (is_full desk.book call ≡ true))

-- A desk did not take a call that it takes unless it is premature: the call is premature, and is returned with its
-- bell; or it is not premature, and was refused.
abbrev pub IsHandedBack : {B : Type 0} → Opened B → ℕ → Call → Option B → NotTaken B → Type 0
IsHandedBack desk now call bell (Premature other back) =
    (other ≡ call) × (back ≡ bell) × (is_premature desk.book now call ≡ true)
IsHandedBack desk now call bell (Refused back) =
    IsRefusal desk call bell back × (is_premature desk.book now call ≡ false)
