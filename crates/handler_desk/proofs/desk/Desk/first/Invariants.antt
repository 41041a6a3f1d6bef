use Rattle.handler_desk.proofs.Waiting.{Remains}
use Rattle.handler_desk.proofs.desk.Desk.first.Given as goal

-- who still waits has waited
abbrev pub invariant-loop : goal.invariant-loop
invariant-loop l = Remains l.fn.state.requests.waiting l.state.requests.waiting
