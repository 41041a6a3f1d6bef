use Rattle.std.proofs.Common.{◌∙◌, sym, ap, length}
use Rattle.std.specs.Arc.{arc_value}
use Rattle.account_book.proofs.FleetMeets.{sites_length}
use Rattle.account_book.proofs.journal.Journal.environments.Goals as goal

pub returns-clause-value : goal.returns-clause-value
returns-clause-value c =
    rw (sym c.self.view_is)
    (c.from.ensures ∙ c.environments.ensures.value ∙ ap length c.self.invariant.sites_are ∙ sites_length (arc_value c.self.inside.config) c.self.inside.ledger.history)
