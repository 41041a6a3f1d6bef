use Rattle.trace.proofs.object.answer.say_reserved.Goals as goal

pub returns : goal.returns
returns c = rw c.from.ensures at c.say_all.ensures
