use Rattle.std.proofs.Common.{◌∙◌, ap, map}
use Rattle.trace.specs.Sites.{seen}
use Rattle.fleet.specs.declared.reach.Reach.TheVariants.{Nowhere}
use Rattle.trace.proofs.Reaching.{seen_first}
use Rattle.trace.proofs.follower.Follower.open.Goals as goal

pub returns : goal.returns
returns c = ap (map (seen Nowhere)) c.in_ok-open_sites.ensures ∙ seen_first c.args.config.now
