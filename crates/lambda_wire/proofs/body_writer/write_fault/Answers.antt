use Rattle.std.proofs.Common.{refl}
use Rattle.lambda_wire.proofs.BodyTexts.{fault_written}
use Rattle.lambda_wire.proofs.body_writer.write_fault.Goals as goal

pub returns : goal.returns
returns c = c.into_vec.ensures _ _ (c.text-2.ensures _ (c.text.ensures _ c.new.ensures)) refl (fault_written c.args.message.now c.args.kind.now)
