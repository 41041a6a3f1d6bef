use Rattle.std.proofs.lemmas.List.{take_min, drop_min}
use Rattle.handover.specs.Pipes.{most_held}
use Rattle.handover.proofs.pipe.cut.Goals as goal

pub returns-clause-front : goal.returns-clause-front
returns-clause-front c = rw (c.min-count.ensures, c.len.ensures.value, take_min most_held c.args.rest.now) at c.split_to.ensures.front

pub returns-clause-rest : goal.returns-clause-rest
returns-clause-rest c = rw (c.min-count.ensures, c.len.ensures.value, drop_min most_held c.args.rest.now) at c.split_to.ensures.rest
