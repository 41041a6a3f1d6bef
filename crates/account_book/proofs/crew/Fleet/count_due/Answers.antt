use Rattle.std.proofs.Common.{sym, ap, ◌∙◌, map}
use Rattle.call_model.proofs.Pairs.{is_some_none}
use Rattle.deadlines.specs.Due.{first_due}
use Rattle.account_book.specs.Crew.{Crew}
use Rattle.account_book.specs.Fleets.{deadline_at}
use Rattle.account_book.proofs.FleetMeets.{none_due}
use Rattle.account_book.proofs.crew.Fleet.count_due.Goals as goal

pub returns-then-is_none-clause-value : goal.returns-then-is_none-clause-value
returns-then-is_none-clause-value c =
    sym
    (none_due c.args.now c.args.self.now.sites (ap (λ (k : Crew). first_due c.args.now (map deadline_at k.sites)) (sym c.self.view_is) ∙ ap (first_due c.args.now) (sym c.self.invariant.due) ∙ sym c.first_due.ensures ∙ is_some_none c.first_due.result c.if-is_none.ensures))
