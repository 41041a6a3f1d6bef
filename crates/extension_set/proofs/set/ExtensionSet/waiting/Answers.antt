use Rattle.std.proofs.Common.{◌≡◌, ◌+◌, ◌∷◌, [], ◌∙◌, take, reverse, sym, add-one, arith}
use Rattle.std.proofs.Math.Seq.{take-suc}
use Rattle.std.proofs.lemmas.List.{reverse-append}
use Rattle.extension_set.proofs.set.ExtensionSet.waiting.Goals as goal
use Rattle.extension_set.proofs.set.ExtensionSet.waiting.Goals.{then-is_awaited, else-is_awaited}

pub loop-member-preserved : goal.loop-member-preserved
loop-member-preserved c =
    let items = c.deref-member-items.result.now in
    let i = c.loop-member.member-index in
    let member = c.member-item.result in
    let longer : reverse (take (i + 1) items) ≡ member ∷ reverse (take i items) =
    rw (add-one, take-suc items i member c.loop-member-test.true, ← c.member-item.is) (reverse-append (take i items) (member ∷ [])) in
    elim c.if-is_awaited.branch [
      | then-is_awaited w ↦ rw (longer, sym c.is_awaited.ensures ∙ w.if-is_awaited.true, w.waiting-is) (omega arith, omega arith)
      | else-is_awaited w ↦ rw (longer, sym c.is_awaited.ensures ∙ w.if-is_awaited.false, w.waiting-is) (omega arith, omega arith)
    ]
