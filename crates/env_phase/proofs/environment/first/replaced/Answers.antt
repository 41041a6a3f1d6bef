use Rattle.env_phase.proofs.environment.first.replaced.Goals as goal

pub returns-in-RuntimeNext : goal.returns-in-RuntimeNext
returns-in-RuntimeNext c = rw c.in-RuntimeNext.is
