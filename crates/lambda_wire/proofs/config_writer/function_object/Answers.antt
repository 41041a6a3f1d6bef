use Rattle.std.proofs.Common.{◌∙◌, arith}
use Rattle.std.proofs.lemmas.Result.{IfOk-weaker}
use Rattle.lambda_wire.specs.Ranges.{IsFunctionInRange}
use Rattle.lambda_wire.proofs.ObjectParts.{always, function_put}
use Rattle.lambda_wire.proofs.config_writer.function_object.Goals as goal

pub returns-clause-value : goal.returns-clause-value
returns-clause-value c =
    let lists = c.list-2.ensures _ (c.text-2.ensures _ (c.text.ensures _ (c.list.ensures _ c.new.ensures))) in
    let whole = c.into_value.ensures _ (c.number_if_any.ensures.members _ (c.number.ensures _ lists)) in
    IfOk-weaker c.into_value.result _ _
    (λ v is. is ∙ function_put c.args.function.now _ _ _ _ c.requires.extensions c.requires.ports c.as_str.ensures c.as_str-2.ensures) whole

pub returns-clause-in_range : goal.returns-clause-in_range
returns-clause-in_range c =
    always c.into_value.result (IsFunctionInRange c.args.function.now) (omega arith, c.number_if_any.ensures.in_range, c.requires.in_range)
