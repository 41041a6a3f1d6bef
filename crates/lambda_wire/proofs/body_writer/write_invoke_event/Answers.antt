use Rattle.std.proofs.Common.{refl}
use Rattle.lambda_wire.proofs.BodyTexts.{invoke_event_written}
use Rattle.lambda_wire.proofs.body_writer.write_invoke_event.Goals as goal

pub returns : goal.returns
returns c =
    let tracing = c.text-tracing.ensures _ (c.text.ensures _ c.new.ensures) in
    let before = c.text-4.ensures _ (c.text-3.ensures _ (c.text-2.ensures _ (c.number.ensures _ c.new-2.ensures))) in
    c.into_vec.ensures _ _ (c.object.ensures _ _ before tracing) refl
    (invoke_event_written c.args.deadline c.args.arn.now c.args.request.now c.args.trace.now)
