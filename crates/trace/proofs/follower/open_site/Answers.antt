use Rattle.std.proofs.Common.{[], ap}
use Rattle.call_model.specs.Life.{life}
use Rattle.fleet.specs.declared.site.Site.{Site}
use Rattle.trace.specs.Sites.{site}
use Rattle.trace.specs.declared.follower.followed.Followed.{Followed}
use Rattle.trace.proofs.follower.open_site.Goals as goal

pub returns : goal.returns
unfolding life
returns c = ap (λ (k : Site). let s : Followed = record (site c.args.config.now [] c.args.env) { site = k } in s) c.in_ok-open.ensures
