use Rattle.trace.proofs.Telling.{adds_same, text_body, other_body}
use Rattle.trace.proofs.draft.write_body.Goals as goal

pub returns-in-Ok : goal.returns-in-Ok
returns-in-Ok c = adds_same _ _ _ _ _ (text_body _ _ c.in-Ok.ensures.cases.0 c.in-Ok.ensures.cases.1) c.write_text.ensures

pub returns-in-Err : goal.returns-in-Err
returns-in-Err c = adds_same _ _ _ _ _ (other_body _ c.in-Err.ensures.cases.0) c.write_base64.ensures
