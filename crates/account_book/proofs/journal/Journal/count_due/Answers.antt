use Rattle.std.proofs.Common.{◌∙◌, sym, ap, count_by}
use Rattle.std.specs.Arc.{arc_value}
use Rattle.account_book.specs.Fleets.{is_site_due}
use Rattle.account_book.proofs.FleetMeets.{due_count_is}
use Rattle.account_book.proofs.journal.Journal.count_due.Goals as goal

pub returns-clause-value : goal.returns-clause-value
returns-clause-value c =
    rw (sym c.self.view_is)
    (c.count_due.ensures.value ∙ ap (count_by (is_site_due c.args.moment)) c.self.invariant.sites_are ∙ due_count_is (arc_value c.self.inside.config) c.self.inside.ledger.history c.args.moment)
