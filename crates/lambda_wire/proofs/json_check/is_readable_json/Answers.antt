use Rattle.std.proofs.Common.{rules}
use Rattle.lambda_wire.proofs.JsonPartsLemmas.{read_by_parts}
use Rattle.lambda_wire.proofs.json_check.is_readable_json.Goals as goal

pub returns-else-is_ok : goal.returns-else-is_ok
returns-else-is_ok c = search (rules, read_by_parts)
