use Rattle.std.proofs.Common.{◌∙◌, sym, ap, List}
use Rattle.std.specs.List.{list_all}
use Rattle.std.proofs.lemmas.List.Folds.{list_all-map}
use Rattle.std.specs.Arc.{arc_value}
use Rattle.arn_ids.specs.Environments.{environments}
use Rattle.call_model.specs.Life.{seen}
use Rattle.env_phase.specs.Taking.{is_off}
use Rattle.fleet.specs.declared.site.Site.{Site}
use Rattle.fleet.specs.Sites.{site}
use Rattle.account_book.proofs.journal.Journal.is_off.Goals as goal

pub returns : goal.returns
unfolding seen
returns c =
    rw (sym c.self.view_is)
    (c.is_off.ensures ∙ ap (λ (ss : List Site). list_all (λ s. is_off s.environment.stand.phase) ss) c.self.invariant.sites_are ∙ list_all-map (λ (s : Site). is_off s.environment.stand.phase) (site (arc_value c.self.inside.config) c.self.inside.ledger.history) (environments (arc_value c.self.inside.config)))
