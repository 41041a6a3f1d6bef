use Rattle.account_book.proofs.Fitting.{fit_reached}
use Rattle.trace_replay.proofs.laws.fit.Goals as goal

pub returns : goal.returns
returns c = fit_reached
