use Rattle.std.proofs.Common.{◌==◌, sym}
use Rattle.std.proofs.lemmas.List.{take_rest}
use Rattle.arn_ids.proofs.Pieces.{split_some, split_none}
use Rattle.script.proofs.fields.cut.Goals as goal

pub returns-in-Some : goal.returns-in-Some
returns-in-Some c = rw take_rest (split_some (λ b. b == 32) c.args.text.now c.in-Some.at (sym c.in-Some.ensures))

pub returns-in-None : goal.returns-in-None
returns-in-None c = split_none (λ b. b == 32) c.args.text.now (sym c.in-None.ensures)
