use Rattle.std.proofs.Common.{ap, sym, ◌∙◌}
use Rattle.account_lock.specs.Desks.{is_premature}
use Rattle.account_lock.proofs.desk.Desk.apply_unless_premature.Goals as goal

pub returns-in-Ok-clause-taken : goal.returns-in-Ok-clause-taken
returns-in-Ok-clause-taken g c = (
  c.in-Ok.ensures.taken,
  ap (λ d. is_premature d.book c.args.now c.args.call) (sym c.self.view_is) ∙ sym c.if-is_premature.ensures,
)

pub returns-in-Err-clause-not_taken : goal.returns-in-Err-clause-not_taken
returns-in-Err-clause-not_taken g c = (
  c.in-Err.ensures.refused,
  ap (λ d. is_premature d.book c.args.now c.args.call) (sym c.self.view_is) ∙ sym c.if-is_premature.ensures,
)
