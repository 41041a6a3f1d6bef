use Rattle.script.proofs.WithinLemmas.{read_within}
use Rattle.script.proofs.call_reader.read_call.Goals as goal

pub returns-clause-within : goal.returns-clause-within
returns-clause-within c = read_within c.timed_call.result c.args.reserves c.args.config.now c.args.line.now c.timed_call.ensures
