use Rattle.script.proofs.WritingLemmas.{fails_after}
use Rattle.script.proofs.answer_writer.push_lines.Goals as goal

pub returns-in_err-push_answer : goal.returns-in_err-push_answer
returns-in_err-push_answer g c = fails_after _ c.from_residual.result _ _ _ _ _ c.from_residual.ensures.1 c.loop-ticket.invariant c.in_err-push_answer.ensures
