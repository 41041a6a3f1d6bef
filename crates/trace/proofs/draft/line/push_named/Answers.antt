use Rattle.trace.proofs.Runs.{begun_behind_more}
use Rattle.trace.proofs.draft.line.push_named.Goals as goal

pub returns : goal.returns
returns c =
    c.push_written.ensures _ (begun_behind_more c.args.after _ _ _ _ _ c.in_ok-writer.ensures.1 c.in_ok-write_parts.ensures.tokens c.in_ok-key.ensures.ok)
