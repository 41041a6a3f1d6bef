use Rattle.std.proofs.Common.{Err, inr, sym, ap, ◌∙◌}
use Rattle.handover.specs.Posted.{is_framing}
use Rattle.handover.proofs.Fields.{name_bad, name_framing, name_ok}
use Rattle.handover.proofs.answer.read_name.Goals as goal

pub returns-in-Err-Invalid : goal.returns-in-Err-Invalid
returns-in-Err-Invalid c =
    inr (name_bad c.args.text.now (c.in-Err-Invalid.ensures.invalid.0 (ap (λ e. Err e) c.in-Err-Invalid.field-0-is)))

pub returns-then-is_framing : goal.returns-then-is_framing
returns-then-is_framing c =
    let framing = ap is_framing (sym c.as_str.ensures.value) ∙ sym c.is_framing.ensures ∙ c.if-is_framing.true in
    inr (name_framing c.args.text.now c.in-Ok.name c.in-Ok.ensures.ok c.as_str.ensures.valid.0 framing)

pub returns : goal.returns
returns c =
    let free = ap is_framing (sym c.as_str.ensures.value) ∙ sym c.is_framing.ensures ∙ c.if-is_framing.false in
    name_ok c.args.text.now c.in-Ok.name c.in-Ok.ensures.ok c.as_str.ensures.valid.0 free
