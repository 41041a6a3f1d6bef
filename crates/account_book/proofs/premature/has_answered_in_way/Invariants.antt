use Rattle.std.proofs.Common.{◌≡◌, ◌&&◌, false, take}
use Rattle.std.specs.List.{list_any}
use Rattle.concurrency_pool.specs.Pools.{usage_at}
use Rattle.env_phase.specs.Taking.{has_answered}
use Rattle.account_book.specs.Premature.{in_way}
use Rattle.fleet.specs.declared.site.Site.{Site}
use Rattle.account_book.proofs.premature.has_answered_in_way.Given as goal

abbrev pub invariant-loop-site : goal.invariant-loop-site
invariant-loop-site l =
    list_any (λ (site : Site). has_answered site.environment.stand && in_way l.reason l.function (usage_at l.pool site.function).reserved site.function) (take l.site-index l.sites) ≡ false
