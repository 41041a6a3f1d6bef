-- What a tally keeps, and how it grows.
use Rattle.std.specs.Prelude.{ℕ, ◌≡◌, List, [], ◌∷◌, ◌++◌}
use Rattle.call_types.specs.declared.answer.Answer.{Answer}
use Rattle.call_types.specs.declared.head.Head.{Head}

-- What a tally keeps: receipts, which are the answers that were given in its steps, and the heads of the calls that it
-- made, each with its ticket, the oldest first.
pub record Kept : Type 0 where
  pub receipts : List (ℕ × Answer)
  pub calls : List (ℕ × Head)

-- These receipts and these calls.
abbrev pub kept : List (ℕ × Answer) → List (ℕ × Head) → Kept
kept receipts calls = record { receipts = receipts; calls = calls }

-- Neither receipts nor calls.
abbrev pub nothing : Kept
nothing = kept [] []

-- What is kept, with one more receipt after the others.
abbrev pub with_receipt : Kept → ℕ → Answer → Kept
with_receipt old ticket answer = kept (old.receipts ++ (ticket, answer) ∷ []) old.calls

-- What is kept, with one more call after the others.
abbrev pub with_call : Kept → ℕ → Head → Kept
with_call old ticket head = kept old.receipts (old.calls ++ (ticket, head) ∷ [])

-- The relation `step` holds for each of the pairs, in their order: from what was kept to what is kept after the pair.
abbrev pub Steps : {X : Type 0} → (Kept → ℕ → X → Kept → Type 0) → Kept → List (ℕ × X) → Kept → Type 0
Steps step old [] new = new ≡ old
Steps step old (pair ∷ pairs) new = (between : Kept) × step old pair.0 pair.1 between × Steps step between pairs new

-- What is kept, with more receipts after the others.
abbrev pub with_receipts : Kept → List (ℕ × Answer) → Kept
with_receipts old receipts = kept (old.receipts ++ receipts) old.calls

-- What is kept, with more calls after the others.
abbrev pub with_calls : Kept → List (ℕ × Head) → Kept
with_calls old calls = kept old.receipts (old.calls ++ calls)
