use Rattle.std.proofs.Common.{◌≡◌, ◌∙◌, length, sym, ap, subst}
use Rattle.account_book.specs.Crew.{Crew}
use Rattle.account_book.specs.Fleets.{site_at}
use Rattle.fleet.specs.declared.site.Site.{Site}
use Rattle.account_book.proofs.Visits.{site_is_at}
use Rattle.account_book.proofs.crew.Fleet.environment.Goals as goal

pub returns : goal.returns
returns c =
    subst (λ (w : Crew). c.index.result.now.environment ≡ (site_at w.sites c.args.env).environment) c.self.view_is
    (ap (λ (s : Site). s.environment)
    (c.index.ensures
    ∙ sym (site_is_at c.self.inside.sites.items c.args.env _ c.requires.from_one (rw (ap (λ (w : Crew). length w.sites) c.self.view_is) c.requires.there))))
