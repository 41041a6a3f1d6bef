use Rattle.script.proofs.call_writer.push_init_failure.Goals as goal

pub returns : goal.returns
returns g c = rw c.env_word.ensures at c.push_words.ensures
