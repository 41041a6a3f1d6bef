use Rattle.std.proofs.Common.{refl, sym}
use Rattle.base64.specs.Engines.{standard}
use Rattle.base64.specs.GeneralPurpose.{encode_of}
use Rattle.trace.proofs.Telling.{text_body, other_body}
use Rattle.trace.proofs.draft.line.form_of.Goals as goal

pub returns-in-Ok : goal.returns-in-Ok
returns-in-Ok c = (c.args.body.now, sym (text_body c.args.body.now c.args.body.now refl c.in-Ok.ensures.cases.1), refl)

pub returns-in-Err : goal.returns-in-Err
returns-in-Err c = (encode_of standard c.args.body.now, sym (other_body c.args.body.now c.in-Err.ensures.cases.0), refl)
