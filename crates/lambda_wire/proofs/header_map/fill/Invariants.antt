use Rattle.std.specs.Prelude.{◌≡◌}
use Rattle.lambda_wire.specs.HeaderFields.{filled}
use Rattle.lambda_wire.proofs.header_map.fill.Given as goal

abbrev pub invariant-loop-name : goal.invariant-loop-name
invariant-loop-name l = filled l.map l.name-iterator.a.rest.now l.name-iterator.b.rest.items ≡ filled l.fn.map l.names l.fn.values.items
