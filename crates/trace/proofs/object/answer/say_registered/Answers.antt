use Rattle.trace.proofs.object.answer.say_registered.Goals as goal

pub returns : goal.returns
returns c = rw c.environment_id.ensures at c.say_all.ensures
