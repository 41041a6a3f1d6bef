use Rattle.std.proofs.Common.{◌≡◌, ◌++◌, take}
use Rattle.std.specs.List.{flat_map}
use Rattle.json.specs.Print.{ends_value, print}
use Rattle.trace.specs.Telling.{run_tokens}
use Rattle.trace.proofs.draft.line.push_runs.Given as goal

abbrev pub invariant-loop-run : goal.invariant-loop-run
invariant-loop-run l = record {
  text : l.text ≡ l.fn.text ++ print (flat_map run_tokens (take l.run-index l.runs));
  ends : l.after ≡ ends_value (flat_map run_tokens (take l.run-index l.runs));
}
