use Rattle.std.proofs.Common.{length, sym, subst}
use Rattle.std.proofs.lemmas.Result.{IfOk-weaker}
use Rattle.arn_ids.specs.Environments.{owners}
use Rattle.trace.specs.Listings.{HasListed, Listed}
use Rattle.trace.proofs.Listed.{listed}
use Rattle.trace.proofs.listing.Listing.finish.Goals as goal

pub returns : goal.returns
returns c =
    IfOk-weaker c.finish.result _ _
    (λ object ended config salt h has. listed config salt h object _ _ c.say_all.ensures ended
    (subst (λ (l : Listed). HasListed config salt h (length (owners config)) l) (sym c.self.view_is) has))
    c.finish.ensures
