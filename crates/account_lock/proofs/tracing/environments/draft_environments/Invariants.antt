use Rattle.trace.specs.Listings.{HasListed}
use Rattle.account_lock.proofs.tracing.environments.draft_environments.Given as goal

abbrev pub invariant-loop-index : goal.invariant-loop-index
invariant-loop-index l = HasListed l.book.config l.book.salt l.book.history l.index l.listing
