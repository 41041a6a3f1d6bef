use Rattle.std.proofs.Common.{arith}
use Rattle.arn_ids.proofs.numbers.read_number.Goals as goal

pub returns-in_default-clause-value : goal.returns-in_default-clause-value
returns-in_default-clause-value c = grind arith
