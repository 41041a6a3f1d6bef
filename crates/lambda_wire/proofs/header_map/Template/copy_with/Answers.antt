use Rattle.lambda_wire.proofs.FilledFields.{map_same}
use Rattle.lambda_wire.proofs.header_map.Template.copy_with.Goals as goal

pub returns : goal.returns
returns c =
    rw (map_same c.args.self.now.map c.in_ok-clone.field-0 c.in_ok-clone.ensures.cases, c.as_slice.ensures.value)
    at c.fill.ensures
