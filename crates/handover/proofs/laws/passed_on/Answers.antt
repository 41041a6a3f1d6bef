use Rattle.std.proofs.Common.{[], refl, arith}
use Rattle.handover.specs.Pipes.{opened, run, all_put, all_got}
use Rattle.handover.proofs.Piping.{Stands, stands_run, all_taken, few_run, puts_no_more, gives_no_more}
use Rattle.handover.proofs.laws.passed_on.Goals as goal

begun : Stands opened [] []
begun = record { more = []; is = refl; held = λ here. refl; gone = λ gone. refl }

pub returns-clause-begins : goal.returns-clause-begins
returns-clause-begins c events =
    let now = stands_run opened [] [] events begun in
    (now.more, now.is)

pub returns-clause-whole : goal.returns-clause-whole
returns-clause-whole c events is =
    all_taken (run opened events) (all_put opened events) (all_got opened events) (stands_run opened [] [] events begun) is

pub returns-clause-bounded : goal.returns-clause-bounded
returns-clause-bounded c events = few_run opened events (omega arith)

pub returns-clause-puts_no_more : goal.returns-clause-puts_no_more
returns-clause-puts_no_more c p events over = puts_no_more p events over

pub returns-clause-gives_no_more : goal.returns-clause-gives_no_more
returns-clause-gives_no_more c p events over none = gives_no_more p events over none
