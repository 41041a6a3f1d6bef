use Rattle.std.proofs.Common.{sym}
use Rattle.lambda_wire.proofs.FilledFields.{insert_first}
use Rattle.lambda_wire.proofs.header_map.put.Goals as goal

pub returns : goal.returns
returns c =
    rw (← (insert_first c.args.map.now c.args.name.now c.args.value (sym (rw c.in_default.is at c.get_mut.ensures.value))))
    c.set.ensures
