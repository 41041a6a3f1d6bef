use Rattle.http_routes.proofs.PlainNames.{found_reads}
use Rattle.http_routes.proofs.names.with_plain_name.Goals as goal

pub returns-clause-plain : goal.returns-clause-plain
returns-clause-plain c =
    found_reads c.args.config.now c.args.name.now c.function_named.result c.functions-functions.ensures.sound
    (rw c.as_bytes.ensures.value at c.function_named.ensures)
