use Rattle.std.proofs.Common.{◌≡◌, [], map}
use Rattle.arn_ids.specs.Environments.{count_from}
use Rattle.trace.specs.Sites.{site}
use Rattle.trace.proofs.follower.open_sites.Given as goal

abbrev pub invariant-loop-index : goal.invariant-loop-index
invariant-loop-index l = l.sites.items ≡ map (site l.config []) (count_from 1 l.index)
