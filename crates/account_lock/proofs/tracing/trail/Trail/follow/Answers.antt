use Rattle.account_book.proofs.Fitting.{fit_reached, fit_reversed}
use Rattle.account_lock.proofs.tracing.trail.Trail.follow.Goals as goal

pub follow-requires-clause-fit : goal.follow-requires-clause-fit
follow-requires-clause-fit g c =
    let book = c.args.book.now in
    rw c.past.ensures.entries (fit_reversed book.history (fit_reached book.config book.max_entries book.history c.facts.ensures.reached))
