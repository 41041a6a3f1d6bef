use Rattle.std.proofs.Common.{take}
use Rattle.std.specs.Prelude.{All}
use Rattle.lambda_wire.specs.Ranges.{IsFunctionInRange}
use Rattle.account_book.proofs.ranges.functions_fit.Given as goal

abbrev pub invariant-loop-function : goal.invariant-loop-function
invariant-loop-function l = All IsFunctionInRange (take l.function-index l.functions)
