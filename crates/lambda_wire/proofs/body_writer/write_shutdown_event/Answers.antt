use Rattle.std.proofs.Common.{refl}
use Rattle.lambda_wire.proofs.BodyTexts.{shutdown_event_written}
use Rattle.lambda_wire.proofs.body_writer.write_shutdown_event.Goals as goal

pub returns : goal.returns
returns c =
    c.into_vec.ensures _ _ (c.text-2.ensures _ (c.text.ensures _ (c.number.ensures _ c.new.ensures))) refl
    (shutdown_event_written c.args.deadline c.args.reason.now)
