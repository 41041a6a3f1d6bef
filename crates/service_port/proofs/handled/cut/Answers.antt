use Rattle.std.proofs.Common.{◌==◌, sym}
use Rattle.std.proofs.lemmas.List.{take_rest}
use Rattle.arn_ids.proofs.Pieces.{split_some, split_none}
use Rattle.service_port.proofs.handled.cut.Goals as goal

pub returns-in-Some : goal.returns-in-Some
returns-in-Some c = rw take_rest (split_some (λ b. b == 44) c.args.bytes.now c.in-Some.at (sym c.in-Some.ensures))

pub returns-in-None : goal.returns-in-None
returns-in-None c = split_none (λ b. b == 44) c.args.bytes.now (sym c.in-None.ensures)
