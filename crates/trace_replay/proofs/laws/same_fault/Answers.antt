use Rattle.trace_replay.proofs.Scripts.{same_fault}
use Rattle.trace_replay.proofs.laws.same_fault.Goals as goal

pub returns : goal.returns
returns c = same_fault
