use Rattle.std.proofs.Common.{◌∷◌, reverse}
use Rattle.script.proofs.WritingLemmas.{adds_after, first_and_others}
use Rattle.script.proofs.answer_writer.push_answer_words.Goals as goal

pub returns : goal.returns
returns g c =
    let first = c.first_word.ensures c.args.past.now.salt (reverse c.args.past.now.entries.now.0) c.args.ticket in
    rw (← first_and_others _ _ first)
    (adds_after c.push_other_words.result (32 ∷ c.first_word.result.now) _ (g.W.Sink.text c.args.out.now) _ _ c.in_ok-push_spaced.ensures c.push_other_words.ensures)
