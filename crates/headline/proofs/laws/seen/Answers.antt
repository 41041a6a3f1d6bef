use Rattle.account_book.proofs.Reaching.{reached_legal}
use Rattle.headline.proofs.Holding.{holds}
use Rattle.headline.proofs.laws.seen.Goals as goal

pub returns : goal.returns
returns c = λ config most before h sees. holds config h (reached_legal config most h sees.reached)
