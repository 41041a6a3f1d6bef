use Rattle.account_lock.proofs.tracing.environments.draft_environments.Goals as goal

pub loop-index-init : goal.loop-index-init
loop-index-init c =
    c.in_ok-listing.ensures c.args.book.now.config c.args.book.now.salt c.args.book.now.history c.len.ensures.value
