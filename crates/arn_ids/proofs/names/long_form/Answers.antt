use Rattle.std.proofs.Common.{rules}
use Rattle.arn_ids.proofs.Parts.{shape_long}
use Rattle.arn_ids.proofs.names.long_form.Goals as goal

pub returns-in-Some-rest : goal.returns-in-Some-rest
returns-in-Some-rest c = search (rules, shape_long)
