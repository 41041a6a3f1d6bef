-- What a call that was taken changes in the tally of its caller.
use Rattle.std.specs.Prelude.{◌≡◌, ℕ, List}
use Rattle.call_types.specs.declared.answer.Answer.{Answer}
use Rattle.call_types.specs.declared.call.Call.{Call}
use Rattle.call_types.specs.declared.head.Head.{Head}
use Rattle.call_types.specs.Heads.{head_of}
use Rattle.usage_ledger.specs.Keeping.{Kept, Steps}
use Rattle.usage_ledger.specs.Tallies.{Held}

-- The tally has the same parts as before, and is marked as made by a join exactly if it was before.
abbrev pub HasPartsOf : Held → Held → Type 0
HasPartsOf before after = (after.parts ≡ before.parts) × (after.joined ≡ before.joined)

-- The tally has noted some answers, and then the head of this call at its ticket.
abbrev pub KeepsCall : (Kept → ℕ → Answer → Kept → Type 0) → (Kept → ℕ → Head → Kept → Type 0)
    → Held → Call → ℕ → Held → Type 0
KeepsCall notes makes before call ticket after =
    (answers : List (ℕ × Answer)) × (between : Kept) × Steps notes before.kept answers between
    × makes between ticket (head_of call) after.kept
