use Rattle.trace.proofs.object.answer.say_delivery.Goals as goal

pub returns : goal.returns
returns c = rw (c.body.ensures, c.request_id.ensures) at c.say_around.ensures
