-- What is kept after a list of answers or calls.
use Rattle.std.proofs.Common.{ℕ, ◌≡◌, List, [], ◌∷◌, sym, ap, ◌∙◌, append-nil, append_assoc}
use Rattle.call_types.specs.declared.answer.Answer.{Answer}
use Rattle.call_types.specs.declared.head.Head.{Head}
use Rattle.usage_ledger.specs.Keeping.{Kept, Steps, kept, with_receipt, with_call, with_receipts, with_calls}

-- one receipt after the other is all receipts
pub receipts_appended : (old new : Kept) (receipts : List (ℕ × Answer))
    → Steps (λ from ticket answer to. to ≡ with_receipt from ticket answer) old receipts new
    → new ≡ with_receipts old receipts
receipts_appended old new [] steps = steps ∙ ap (λ rs. kept rs old.calls) (sym (append-nil old.receipts))
receipts_appended old new (receipt ∷ receipts) steps =
    receipts_appended steps.0 new receipts steps.2
    ∙ ap (λ from. with_receipts from receipts) steps.1
    ∙ ap (λ rs. kept rs old.calls) (append_assoc old.receipts (receipt ∷ []) receipts)

-- one call after the other is all calls
pub calls_appended : (old new : Kept) (calls : List (ℕ × Head))
    → Steps (λ from ticket head to. to ≡ with_call from ticket head) old calls new → new ≡ with_calls old calls
calls_appended old new [] steps = steps ∙ ap (λ cs. kept old.receipts cs) (sym (append-nil old.calls))
calls_appended old new (call ∷ calls) steps =
    calls_appended steps.0 new calls steps.2
    ∙ ap (λ from. with_calls from calls) steps.1
    ∙ ap (λ cs. kept old.receipts cs) (append_assoc old.calls (call ∷ []) calls)

-- steps that keep nothing keep nothing together
pub nothing_appended : {X : Type 0} (old new : Kept) (pairs : List (ℕ × X)) → Steps (λ from ticket x to. to ≡ from) old pairs new → new ≡ old
nothing_appended old new [] steps = steps
nothing_appended old new (pair ∷ pairs) steps = nothing_appended steps.0 new pairs steps.2 ∙ steps.1
