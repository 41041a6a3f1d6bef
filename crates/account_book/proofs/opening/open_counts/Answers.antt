use Rattle.std.proofs.Common.{◌∙◌, ◌+◌, ◌++◌, ◌∷◌, [], sym, refl, ap}
use Rattle.call_model.specs.History.{requests}
use Rattle.fleet.proofs.Loops.{count_more}
use Rattle.account_book.proofs.opening.open_counts.Goals as goal

pub loop-function-preserved : goal.loop-function-preserved
loop-function-preserved c =
    c.in_ok-push.ensures.items
    ∙ ap (λ counts. counts ++ 0 ∷ []) c.loop-function.invariant
    ∙ sym (count_more (requests []) 1 c.loop-function._function-index (1 + c.loop-function._function-index) refl)
