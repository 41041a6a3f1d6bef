use Rattle.trace.proofs.Runs.{line_joined}
use Rattle.trace.proofs.draft.line.line_of.Goals as goal

pub returns : goal.returns
returns c =
    line_joined _ _ c.in_ok-after.after c.new-text.result _ _ _ c.new-text.ensures c.in_ok-after.ensures.0 c.in_ok-after.ensures.1 c.in_ok-push_parts.ensures c.in_ok-push.ensures.ok
