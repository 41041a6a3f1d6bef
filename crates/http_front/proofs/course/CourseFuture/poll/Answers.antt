use Rattle.http_front.proofs.course.CourseFuture.poll.Goals as goal

pub returns-in-Own-clause-same : goal.returns-in-Own-clause-same
returns-in-Own-clause-same g c = rw c.in-Own.is c.poll.ensures.same
