use Rattle.std.proofs.Common.{◌≡◌, take, map}
use Rattle.std.specs.Prelude.{All}
use Rattle.serde_json.specs.View.{view}
use Rattle.lambda_wire.specs.Ranges.{IsFunctionInRange}
use Rattle.lambda_wire.specs.ConfigurationText.{function_data}
use Rattle.lambda_wire.proofs.config_writer.function_values.Given as goal

abbrev pub invariant-loop-function : goal.invariant-loop-function
invariant-loop-function l = record {
  written : map view l.values.items ≡ map function_data (take l.function-index l.functions);
  in_range : All IsFunctionInRange (take l.function-index l.functions);
}
