use Rattle.script.specs.AnswerText.{answer_lines}
use Rattle.script.proofs.answer_writer.push_answers.Goals as goal

pub returns-in-Ok-clause-ok : goal.returns-in-Ok-clause-ok
unfolding answer_lines
returns-in-Ok-clause-ok c = λ d.
    rw (← c.at-entry.ensures d) (rw c.as_slice.ensures at c.in-Ok.ensures)
