use Rattle.std.proofs.Common.{◌∙◌, ap}
use Rattle.call_types.specs.declared.call.Entry.{Entry}
use Rattle.call_model.proofs.PastLemmas.{call_here}
use Rattle.account_book.proofs.rendering.call_at.Goals as goal

pub returns : goal.returns
returns c = ap (λ (entry : Entry). entry.call) (c.at.ensures c.at.result.now) ∙ call_here c.args.past.now.entries.now.0 c.args.ticket c.at.result.now c.requires
