use Rattle.std.proofs.Common.{◌≡◌, length}
use Rattle.serde_json.specs.View.{items_view}
use Rattle.lambda_wire.specs.Reading.{each}
use Rattle.lambda_wire.specs.Configuration.{function_of}
use Rattle.lambda_wire.proofs.Each.{with_front}
use Rattle.lambda_wire.proofs.config_reader.functions.Given as goal

abbrev pub invariant-loop-first : goal.invariant-loop-first
invariant-loop-first l = with_front l.found.items (each function_of (items_view l.rest)) ≡ each function_of (items_view l.fn.values)

abbrev pub decreases-loop-first : goal.decreases-loop-first
decreases-loop-first l = length l.rest
