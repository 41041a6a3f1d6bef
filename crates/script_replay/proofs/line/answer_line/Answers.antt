use Rattle.std.proofs.Common.{arith}
use Rattle.script_replay.proofs.line.answer_line.Goals as goal

pub answer-requires-clause-moment : goal.answer-requires-clause-moment
answer-requires-clause-moment c =
    let timed = rw c.in-Some.is at c.in_ok-now.ensures.within in
    omega (arith, timed.0)

pub answer-requires-clause-within : goal.answer-requires-clause-within
answer-requires-clause-within c =
    let timed = rw (c.in-Some.is, c.config.ensures) at c.in_ok-now.ensures.within in
    timed.1
