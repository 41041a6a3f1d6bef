use Rattle.script.specs.AnswerText.{entry_text}
use Rattle.script.proofs.WritingLemmas.{adds_after, fails_after}
use Rattle.script.proofs.answer_writer.push_whole_entry.Goals as goal

pub returns-in_err-end_line : goal.returns-in_err-end_line
returns-in_err-end_line g c =
    fails_after _ c.from_residual-in_err-end_line.result _ _ _ _ _ c.from_residual-in_err-end_line.ensures.1 c.in_ok-push_call.ensures c.in_err-end_line.ensures

pub returns : goal.returns
unfolding entry_text
returns g c =
    adds_after c.push_lines.result _ _ _ _ _ c.in_ok-push_call.ensures
    (adds_after c.push_lines.result _ _ _ _ _ c.in_ok-end_line.ensures (rw c.as_slice.ensures at c.push_lines.ensures))
