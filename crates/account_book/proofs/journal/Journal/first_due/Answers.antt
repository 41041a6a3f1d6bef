use Rattle.std.proofs.Common.{◌∙◌, sym, ap, map}
use Rattle.std.specs.Arc.{arc_value}
use Rattle.deadlines.specs.Due.{first_due}
use Rattle.account_book.specs.Fleets.{deadline_at}
use Rattle.account_book.proofs.FleetMeets.{first_due_is}
use Rattle.account_book.proofs.journal.Journal.first_due.Goals as goal

pub returns : goal.returns
returns c =
    rw (sym c.self.view_is)
    (c.first_due.ensures ∙ ap (λ ss. first_due c.args.moment (map deadline_at ss)) c.self.invariant.sites_are ∙ first_due_is (arc_value c.self.inside.config) c.self.inside.ledger.history c.args.moment)
