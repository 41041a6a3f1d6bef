use Rattle.std.proofs.Common.{◌∙◌, List, ap}
use Rattle.call_types.specs.declared.call.Entry.{Entry}
use Rattle.fleet.specs.Reaches.{reach}
use Rattle.fleet.proofs.Earlier.{before_next}
use Rattle.fleet.proofs.reach.Reach.of_next.Goals as goal

pub returns : goal.returns
returns c =
    c.of.ensures
    ∙ ap (λ (h : List Entry). reach h c.args.place c.args.call.now) (before_next c.args.entries.now.0 c.len.result c.len.ensures)
