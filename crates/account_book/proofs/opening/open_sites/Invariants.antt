use Rattle.std.proofs.Common.{◌≡◌, []}
use Rattle.std.proofs.Common.{map}
use Rattle.arn_ids.specs.Environments.{count_from}
use Rattle.fleet.specs.Sites.{site}
use Rattle.account_book.proofs.opening.open_sites.Given as goal

abbrev pub invariant-loop-index : goal.invariant-loop-index
invariant-loop-index l = l.sites.items ≡ map (site l.config []) (count_from 1 l.index)
