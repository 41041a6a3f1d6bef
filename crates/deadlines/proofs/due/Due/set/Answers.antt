use Rattle.std.proofs.Common.{ap, ◌-◌, slice_set}
use Rattle.deadlines.proofs.due.Due.set.Goals as goal

pub returns : goal.returns
returns c = ap (λ deadlines. slice_set deadlines (c.args.env - 1) c.args.deadline) c.self.view_is
