use Rattle.std.proofs.Common.{◌≡◌, List, length, ap, ◌∙◌, subst}
use Rattle.std.specs.Arc.{arc_value}
use Rattle.arn_ids.specs.Environments.{owners}
use Rattle.env_phase.specs.Meeting.{known_at}
use Rattle.account_book.specs.Fleets.{site_at}
use Rattle.account_book.specs.Pages.{Pages}
use Rattle.fleet.specs.declared.site.Site.{Site}
use Rattle.account_book.proofs.FleetMeets.{sites_length}
use Rattle.account_book.proofs.Visiting.{site_of}
use Rattle.account_book.proofs.journal.Journal.environment.Goals as goal

pub environment-requires-clause-there : goal.environment-requires-clause-there
environment-requires-clause-there c =
    rw
    (c.self.invariant.sites_are, sites_length (arc_value c.self.inside.config) c.self.inside.ledger.history, ap (λ (p : Pages). length (owners p.config)) c.self.view_is) c.requires.there

pub returns : goal.returns
returns c =
    subst (λ (p : Pages). c.environment.result.now ≡ known_at p.config p.history c.args.env) c.self.view_is
    (c.environment.ensures
    ∙ ap (λ (ss : List Site). (site_at ss c.args.env).environment) c.self.invariant.sites_are
    ∙ ap (λ (s : Site). s.environment)
    (site_of (arc_value c.self.inside.config) c.self.inside.ledger.history c.args.env c.requires.from_one (rw (ap (λ (p : Pages). length (owners p.config)) c.self.view_is) c.requires.there)))
