use Rattle.std.proofs.Common.{inl, inr, sym, ◌∙◌, ◌≡◌}
use Rattle.lambda_wire.specs.HeaderFields.{filled}
use Rattle.lambda_wire.proofs.FilledFields.{filled_names_end, filled_values_end}
use Rattle.lambda_wire.proofs.header_map.fill.Goals as goal

pub returns : goal.returns
returns c =
    let map = c.loop-name.map in
    let names = c.loop-name.name-iterator.a.rest.now in
    let values = c.loop-name.name-iterator.b.rest in
    let over : map ≡ filled map names values.items =
    elim c.in-None.ensures.steps [
      | inl x ↦ filled_names_end map names values.items x.1.0
      | inr x ↦ filled_values_end map names values.items (sym values.ok.0 ∙ x.1.0)
    ] in
    over ∙ c.loop-name.invariant
