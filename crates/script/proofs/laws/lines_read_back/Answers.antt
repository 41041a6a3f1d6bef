use Rattle.script.proofs.ReadAgain.{read_again}
use Rattle.script.proofs.laws.lines_read_back.Goals as goal

pub returns : goal.returns
returns c = read_again
