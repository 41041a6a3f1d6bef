use Rattle.std.proofs.Common.{rules}
use Rattle.http_front.proofs.Responded.{given_before, given_by}
use Rattle.http_front.proofs.course.responding.RespondingFuture.poll.Goals as goal

pub returns-in-Pending-clause-same : goal.returns-in-Pending-clause-same
returns-in-Pending-clause-same g c = λ x given.
    given_before _ _ _ c.args.self.now.refusal c.args.self.now.exchange c.in-Some-exchange.exchange
    (record c.in-Some-exchange.exchange { value = c.poll.new.self })
    c.in-Some-exchange.is (λ made gave. (rw c.deref_mut.ensures.value at c.in-Pending.ensures.same) made gave) x given

pub returns-in-Ready-clause-value : goal.returns-in-Ready-clause-value
returns-in-Ready-clause-value g c =
    given_by _ _ _ c.args.self.now.refusal c.args.self.now.exchange c.in-Some-exchange.exchange c.in-Ready.made
    (search rules) c.in-Some-exchange.is (rw c.deref_mut.ensures.value at c.in-Ready.ensures.value)
    c.answer_to.result c.answer_to.ensures
