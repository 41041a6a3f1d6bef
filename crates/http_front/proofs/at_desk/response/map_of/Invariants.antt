use Rattle.std.specs.Prelude.{◌≡◌, fold}
use Rattle.http_header.specs.HeaderMap.{append}
use Rattle.lambda_wire.specs.HeaderFields.{fields}
use Rattle.http_front.proofs.at_desk.response.map_of.Given as goal

abbrev pub invariant-loop-name : goal.invariant-loop-name
invariant-loop-name l = fold (λ map field. append map field.0 field.1) l.map l.name-iterator.rest.items ≡ fields l.fn.posted.items
