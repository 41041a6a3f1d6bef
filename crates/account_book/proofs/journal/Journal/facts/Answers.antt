use Rattle.std.proofs.Common.{sym}
use Rattle.std.specs.Arc.{arc_value}
use Rattle.account_book.proofs.GivenAnswers.{narrow_sites}
use Rattle.account_book.proofs.journal.Journal.facts.Goals as goal

pub returns-clause-narrow : goal.returns-clause-narrow
returns-clause-narrow c =
    rw (sym c.self.view_is)
    (narrow_sites (arc_value c.self.inside.config) c.self.inside.ledger.history c.self.inside.fleet.widest (rw c.self.invariant.sites_are at c.facts.ensures.narrow))
