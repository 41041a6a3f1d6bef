use Rattle.trace.specs.AnswerObject.{answer_object}
use Rattle.trace.proofs.object.answer.say_answer.Goals as goal

pub returns-in-Accepted : goal.returns-in-Accepted
unfolding answer_object
returns-in-Accepted c = rw c.in-Accepted.is c.say_bare.ensures
