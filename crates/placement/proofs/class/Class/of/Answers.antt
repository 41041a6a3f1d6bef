use Rattle.std.proofs.Common.{◌≡◌, rules}
use Rattle.call_types.specs.declared.answer.Phase.TheVariants.{Starting}
use Rattle.placement.proofs.class.Class.of.Goals as goal

-- It starts, and has an invocation bound.
pub returns-in_default : goal.returns-in_default
returns-in_default c =
    let starts : c.args.phase ≡ Starting c.in_default.field-0 c.in_default.field-1 = c.in_default.is in
    rw starts (search rules)
