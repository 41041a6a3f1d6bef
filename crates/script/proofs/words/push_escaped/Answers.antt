use Rattle.script.proofs.TextFieldLemmas.{same_text}
use Rattle.script.proofs.words.push_escaped.Goals as goal

pub returns : goal.returns
returns c = rw (← same_text c.args.bytes.now, ← c.percent_encode.ensures.text) c.push_pieces.ensures
