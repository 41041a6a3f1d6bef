use Rattle.std.proofs.Common.{arith}
use Rattle.std.proofs.lemmas.Grind.{common_steps}
use Rattle.std.proofs.lemmas.List.Elements.{All-more}
use Rattle.lambda_wire.specs.Ranges.{IsFunctionInRange}
use Rattle.lambda_wire.proofs.config_writer.function_values.Goals as goal

pub loop-function-preserved : goal.loop-function-preserved
loop-function-preserved c = record {
  written = grind (arith, common_steps);
  in_range =
      All-more IsFunctionInRange c.args.functions.now c.loop-function.function-index c.function-item.result (omega arith) c.loop-function.invariant.in_range
      (rw (← c.function-item.is) c.in_ok-function_value.ensures.in_range);
}
