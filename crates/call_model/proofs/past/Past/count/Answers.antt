use Rattle.std.proofs.Common.{◌∙◌, arith}
use Rattle.call_model.proofs.PastLemmas.{count_here}
use Rattle.call_model.proofs.past.Past.count.Goals as goal

pub returns : goal.returns
returns c = c.at.ensures 0 ∙ count_here c.args.self.now.entries.now.0 c.args.self.now.counts.now.0 c.args.ticket c.args.self.now.counted (omega arith)
