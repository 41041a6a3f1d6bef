use Rattle.trace.proofs.Runs.{begun_behind}
use Rattle.trace.proofs.draft.line.push_parts.Goals as goal

pub returns : goal.returns
returns c = c.push_written.ensures _ (begun_behind c.args.after _ _ _ c.in_ok-writer.ensures.1 c.in_ok-write_parts.ensures.tokens)
