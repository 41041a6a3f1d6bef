use Rattle.std.proofs.Common.{sym, ap, ◌∙◌}
use Rattle.std.specs.Prelude.{is_some}
use Rattle.serde_json.specs.Read.{read}
use Rattle.lambda_wire.proofs.JsonPartsLemmas.{no_text, json_absent, json_there}
use Rattle.lambda_wire.proofs.json_check.check_json.Goals as goal

pub returns-in_default : goal.returns-in_default
returns-in_default c = no_text c.args.bytes.now c.in_default.ensures.cases.0

pub returns-then-branch : goal.returns-then-branch
returns-then-branch c =
    let readable = ap (λ b. is_some (read b)) (sym c.in-Ok.ensures.cases.0) ∙ sym c.in_ok-is_json.ensures ∙ c.if-branch.true in
    json_there c.args.bytes.now c.in-Ok.ensures.cases.1 readable

pub returns-else-branch : goal.returns-else-branch
returns-else-branch c =
    let unreadable = ap (λ b. is_some (read b)) (sym c.in-Ok.ensures.cases.0) ∙ sym c.in_ok-is_json.ensures ∙ c.if-branch.false in
    json_absent c.args.bytes.now unreadable
