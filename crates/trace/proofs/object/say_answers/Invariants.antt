use Rattle.std.proofs.Common.{take, reverse}
use Rattle.std.specs.List.{flat_map}
use Rattle.trace.specs.AnswerObject.{answer_object}
use Rattle.trace.specs.Telling.{Tells}
use Rattle.trace.proofs.object.say_answers.Given as goal

abbrev pub invariant-loop-ticket : goal.invariant-loop-ticket
invariant-loop-ticket l =
    Tells (flat_map (λ a. answer_object l.bodies l.past.salt (reverse l.past.entries.now.0) a.0 a.1) (take l.ticket-index l.answers)) l.fn.teller l.teller
