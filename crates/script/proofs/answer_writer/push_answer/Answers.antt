use Rattle.std.proofs.Common.{decimal}
use Rattle.script.specs.AnswerText.{answer_line}
use Rattle.script.proofs.WritingLemmas.{adds_after, fails_after, marked_whole}
use Rattle.script.proofs.answer_writer.push_answer.Goals as goal

pub returns-in_err-push_answer_words : goal.returns-in_err-push_answer_words
returns-in_err-push_answer_words g c =
    fails_after _ c.from_residual-in_err-push_answer_words.result _ _ _ _ _ c.from_residual-in_err-push_answer_words.ensures.1 c.in_ok-push_numbers.ensures c.in_err-push_answer_words.ensures

pub returns : goal.returns
unfolding answer_line
returns g c =
    rw (← marked_whole c.args.mark.now (decimal c.args.number) (decimal c.args.ticket) _ _)
    (adds_after c.end_line.result _ _ _ _ _ c.in_ok-push_numbers.ensures
    (adds_after c.end_line.result _ _ _ _ _ c.in_ok-push_answer_words.ensures c.end_line.ensures))
