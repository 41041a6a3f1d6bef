use Rattle.trace.proofs.ReadBack.{read_back, written_again}
use Rattle.trace.proofs.laws.calls_read_back.Goals as goal

pub returns-clause-call : goal.returns-clause-call
returns-clause-call c = read_back

pub returns-clause-line : goal.returns-clause-line
returns-clause-line c = written_again
