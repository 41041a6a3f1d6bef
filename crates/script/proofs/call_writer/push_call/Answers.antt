use Rattle.script.specs.CallText.{call_text}
use Rattle.script.proofs.WritingLemmas.{adds_after, fails_after}
use Rattle.script.proofs.call_writer.push_call.Goals as goal

pub returns-in_err-push_word-2 : goal.returns-in_err-push_word-2
returns-in_err-push_word-2 g c =
    fails_after _ c.from_residual-in_err-push_word-2.result _ _ _ _ _ c.from_residual-in_err-push_word-2.ensures.1 c.in_ok-push_word.ensures c.in_err-push_word-2.ensures

pub returns : goal.returns
unfolding call_text
returns g c =
    let marked = rw c.mark.ensures at c.in_ok-push_word.ensures in
    adds_after c.push_call_words.result _ _ _ _ _ marked
    (adds_after c.push_call_words.result _ _ _ _ _ c.in_ok-push_word-2.ensures c.push_call_words.ensures)
