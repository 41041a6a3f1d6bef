use Rattle.std.proofs.Common.{◌∙◌, arith}
use Rattle.script_replay.proofs.AddedEntries.{lines_step}
use Rattle.script_replay.proofs.book.push_from.Goals as goal

pub loop-number-preserved : goal.loop-number-preserved
loop-number-preserved c = record {
  within = omega arith;
  written =
      lines_step _ _ c.past-past.result.entries.now.0 c.loop-number.number _ _
      (omega (arith, c.loop-number-test.true, c.len.ensures)) c.in_ok-push_answers.ensures.ok
      ∙ c.loop-number.invariant.written;
}
