use Rattle.std.proofs.Common.{option_map, ap, ◌∙◌}
use Rattle.serde_json.specs.Written.{has_float, compact_text}
use Rattle.lambda_wire.proofs.BodyTexts.{registered_put, registered_whole, registered_written}
use Rattle.lambda_wire.proofs.body_writer.write_registered.Goals as goal

pub returns : goal.returns
returns c =
    let account = option_map (λ a. a.now) c.args.account in
    let put = registered_put account c.args.function.now c.args.handler.now in
    c.into_vec.ensures _ _ (c.text_if_any.ensures _ (c.text-3.ensures _ (c.text-2.ensures _ (c.text.ensures _ c.new.ensures))))
    (ap has_float put ∙ registered_whole account c.args.function.now c.args.handler.now)
    (ap compact_text put ∙ registered_written account c.args.function.now c.args.handler.now)
