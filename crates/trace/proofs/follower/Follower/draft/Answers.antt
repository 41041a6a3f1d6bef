use Rattle.std.proofs.Common.{◌+◌, ◌∙◌, List, reverse}
use Rattle.std.proofs.lemmas.Result.{IfOk-weaker}
use Rattle.call_types.specs.declared.call.Entry.{Entry}
use Rattle.fleet.specs.Reaches.{before}
use Rattle.trace.proofs.Lines.{drafted, told_here}
use Rattle.trace.proofs.Reaching.{numbered_sites, told_of}
use Rattle.trace.proofs.follower.Follower.draft.Goals as goal

pub reached-requires : goal.reached-requires
reached-requires c = rw c.requires.at (numbered_sites c.args.past.now.config.now (before (reverse c.args.past.now.entries.now.0) (c.args.ticket + 1)))

pub returns : goal.returns
returns c =
    let h : List Entry = reverse c.args.past.now.entries.now.0 in
    IfOk-weaker c.finish.result _ _
    (λ draft ended d. drafted _ _ _ _ _ c.in_ok-teller.ensures.begun c.say_entry.ensures
    (told_of c.args.bodies c.args.past.now.config.now c.args.past.now.salt h c.args.ticket c.at-entry.result.now c.reached.result.now c.args.self.now c.reached.ensures
    ∙ told_here c.args.bodies c.args.past.now.config.now c.args.past.now.salt c.args.past.now.entries.now.0 c.args.ticket c.at-entry.result.now c.args.self.now d c.requires.there
    (c.at-entry.ensures d) c.requires.at)
    ended)
    c.finish.ensures
