use Rattle.std.proofs.Common.{rules}
use Rattle.script.specs.Lines.{runtime_call_in}
use Rattle.script.proofs.call_reader.runtime_call.Goals as goal

pub returns-then-says-4 : goal.returns-then-says-4
unfolding runtime_call_in
returns-then-says-4 c =
    rw (← c.if-says.ensures, ← c.if-says-2.ensures, ← c.if-says-3.ensures, ← c.if-says-4.ensures, ← c.in_ok-report-2.ensures) (search rules)
