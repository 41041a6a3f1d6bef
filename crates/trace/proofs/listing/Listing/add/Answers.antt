use Rattle.std.proofs.Common.{sym, subst}
use Rattle.trace.specs.Listings.{HasListed, Listed}
use Rattle.trace.proofs.Listed.{adds}
use Rattle.trace.proofs.listing.Listing.add.Goals as goal

pub returns : goal.returns
returns c h n next is has =
    adds c.args.config.now c.args.salt h n c.args.env _ _ next (rw is at c.say_environment.ensures)
    (subst (λ (l : Listed). HasListed c.args.config.now c.args.salt h n l) (sym c.self.view_is) has)
