use Rattle.account_book.proofs.WholeText.{replayed}
use Rattle.account_book.proofs.laws.replays.Goals as goal

pub returns : goal.returns
returns c = replayed
