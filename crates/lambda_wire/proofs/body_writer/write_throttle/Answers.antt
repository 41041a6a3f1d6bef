use Rattle.std.proofs.Common.{refl}
use Rattle.lambda_wire.proofs.BodyTexts.{throttle_written}
use Rattle.lambda_wire.proofs.body_writer.write_throttle.Goals as goal

pub returns : goal.returns
returns c = c.into_vec.ensures _ _ (c.text-3.ensures _ (c.text-2.ensures _ (c.text.ensures _ c.new.ensures))) refl (throttle_written c.args.reason.now)
