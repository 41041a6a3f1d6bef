use Rattle.std.proofs.Common.{◌∙◌, ap, arith}
use Rattle.call_types.specs.declared.call.Entry.{Entry}
use Rattle.call_model.proofs.PastLemmas.{call_here}
use Rattle.call_model.proofs.past.Past.call.Goals as goal

pub returns : goal.returns
returns c =
    ap (λ (entry : Entry). entry.call) (c.at.ensures c.at.result.now) ∙ call_here c.args.self.now.entries.now.0 c.args.ticket c.at.result.now (omega arith)
