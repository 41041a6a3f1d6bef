use Rattle.trace.proofs.object.call.say_init_failure.Goals as goal

pub returns : goal.returns
returns c = rw c.from.ensures at c.say_around.ensures
