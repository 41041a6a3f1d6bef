use Rattle.std.proofs.Common.{arith}
use Rattle.std.proofs.lemmas.List.Elements.{All-more}
use Rattle.lambda_wire.specs.Ranges.{IsFunctionInRange}
use Rattle.account_book.proofs.ranges.functions_fit.Goals as goal

pub loop-function-preserved : goal.loop-function-preserved
loop-function-preserved c =
    All-more IsFunctionInRange c.args.functions.now c.loop-function.function-index c.function-item.result
    (omega arith) c.loop-function.invariant (rw (← c.function-item.is) c.function_fits.ensures)
