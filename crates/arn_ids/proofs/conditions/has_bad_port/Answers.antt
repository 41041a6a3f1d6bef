use Rattle.std.proofs.Common.{◌≡◌, nat_eq, false, arith}
use Rattle.std.proofs.lemmas.Bool.Decides.{nat_tests}
use Rattle.arn_ids.specs.Faults.{has_bad_port}
use Rattle.arn_ids.proofs.Repeats.{any_port, or_second}
use Rattle.arn_ids.proofs.conditions.has_bad_port.Goals as goal

pub returns-else-invoke_port-eq0 : goal.returns-else-invoke_port-eq0
unfolding has_bad_port
returns-else-invoke_port-eq0 c =
    let no : nat_eq 0 c.args.config.now.invoke_port ≡ false = grind (arith, nat_tests) in
    rw (any_port (nat_eq 0) c.args.config.now.functions, ← c.functions.ensures) (or_second _ _ _ no c.has_environment_on.ensures)
