use Rattle.std.proofs.Common.{◌≡◌, ◌≤◌, take, count_by}
use Rattle.account_book.specs.Fleets.{is_site_due}
use Rattle.account_book.proofs.crew.count_due.Given as goal

abbrev pub invariant-loop-site : goal.invariant-loop-site
invariant-loop-site l = (l.count ≡ count_by (is_site_due l.now) (take l.site-index l.sites)) × (l.count ≤ l.site-index)
