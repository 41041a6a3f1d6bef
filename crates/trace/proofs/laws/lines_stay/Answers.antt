use Rattle.trace.proofs.Staying.{lines_stay}
use Rattle.trace.proofs.laws.lines_stay.Goals as goal

pub returns : goal.returns
returns c = lines_stay
