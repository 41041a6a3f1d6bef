use Rattle.std.proofs.Common.{◌∙◌, arith}
use Rattle.std.proofs.lemmas.Result.{IfOk-weaker}
use Rattle.lambda_wire.specs.Ranges.{IsConfigInRange}
use Rattle.lambda_wire.proofs.ObjectParts.{always, setup_put}
use Rattle.lambda_wire.proofs.config_writer.setup_object.Goals as goal

pub returns-clause-value : goal.returns-clause-value
returns-clause-value c =
    let front = c.number-2.ensures _ (c.list.ensures _ (c.number.ensures _ (c.text.ensures _ c.new.ensures))) in
    let back = c.number-5.ensures _ (c.text-2.ensures _ (c.number-4.ensures _ (c.number-3.ensures _ front))) in
    IfOk-weaker c.into_value.result _ _
    (λ v is. is ∙ setup_put c.args.config.now c.args.salt c.args.max_entries _ _ _ c.as_str.ensures c.as_str-2.ensures c.requires.functions)
    (c.into_value.ensures _ back)

pub returns-clause-in_range : goal.returns-clause-in_range
returns-clause-in_range c =
    always c.into_value.result (IsConfigInRange c.args.config.now) (omega arith, omega arith, omega arith, c.requires.in_range)
