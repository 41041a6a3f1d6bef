use Rattle.trace.proofs.Listed.{opens}
use Rattle.trace.proofs.listing.Listing.open.Goals as goal

pub returns : goal.returns
returns c config salt h is = opens config salt h _ _ _ is c.in_ok-teller.ensures.begun c.say_all.ensures
