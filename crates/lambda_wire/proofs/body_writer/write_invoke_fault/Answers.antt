use Rattle.std.proofs.Common.{refl, sym, ap, ◌∙◌}
use Rattle.lambda_wire.specs.declared.body_writer.InvokeFault.{InvokeFault}
use Rattle.lambda_wire.specs.declared.body_writer.InvokeFault.TheVariants.{User, NotFound, Service}
use Rattle.lambda_wire.specs.Bodies.{invoke_fault_text}
use Rattle.lambda_wire.proofs.BodyTexts.{invoke_fault_written}
use Rattle.lambda_wire.proofs.body_writer.write_invoke_fault.Goals as goal

pub returns-in-User : goal.returns-in-User
returns-in-User c =
    c.into_vec.ensures _ _ (c.text-in-User.ensures _ (c.text.ensures _ c.new-object.ensures)) refl
    (invoke_fault_written User c.args.message.now ∙ ap (λ (form : InvokeFault). invoke_fault_text form c.args.message.now) (sym c.in-User.is))

pub returns-in-NotFound : goal.returns-in-NotFound
returns-in-NotFound c =
    c.into_vec-in-NotFound.ensures _ _ (c.text-in-NotFound-2.ensures _ (c.text-in-NotFound.ensures _ c.new-object.ensures)) refl
    (invoke_fault_written NotFound c.args.message.now ∙ ap (λ (form : InvokeFault). invoke_fault_text form c.args.message.now) (sym c.in-NotFound.is))

pub returns-in-Service : goal.returns-in-Service
returns-in-Service c =
    c.into_vec-in-Service.ensures _ _ (c.text-in-Service-2.ensures _ (c.text-in-Service.ensures _ c.new-object.ensures)) refl
    (invoke_fault_written Service c.args.message.now ∙ ap (λ (form : InvokeFault). invoke_fault_text form c.args.message.now) (sym c.in-Service.is))
