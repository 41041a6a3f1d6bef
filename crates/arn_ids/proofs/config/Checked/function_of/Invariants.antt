use Rattle.std.proofs.Common.{◌≡◌, ◌<◌, ◌-◌, ◌+◌, length, drop}
use Rattle.arn_ids.specs.Environments.{at, no_function, owners, owners_from}
use Rattle.arn_ids.proofs.config.Checked.function_of.Given as goal

abbrev pub invariant-loop-i : goal.invariant-loop-i
invariant-loop-i l = record {
  same : at (0, no_function) (owners l.self) (l.env - 1) ≡ at (0, no_function) (owners_from (1 + l.i) (drop l.i l.self.functions)) l.place;
  within : l.place < length (owners_from (1 + l.i) (drop l.i l.self.functions));
}
