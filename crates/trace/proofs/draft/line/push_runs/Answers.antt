use Rattle.std.proofs.Common.{refl, arith}
use Rattle.trace.proofs.Runs.{no_run, one_run_more, one_run_after}
use Rattle.trace.proofs.draft.line.push_runs.Goals as goal

pub loop-run-init : goal.loop-run-init
loop-run-init c = record { text = no_run c.args.text.now; ends = refl }

pub loop-run-preserved : goal.loop-run-preserved
loop-run-preserved c = record {
  text = one_run_more c.args.runs.now c.loop-run.run-index c.run-item.result c.loop-run.after c.args.text.now c.loop-run.text c.push_run.new.text
      (omega arith) c.run-item.is c.loop-run.invariant.text c.loop-run.invariant.ends c.in_ok-push_run.ensures;
  ends = one_run_after c.args.runs.now c.loop-run.run-index c.run-item.result (omega arith);
}
