use Rattle.long_poll.proofs.Beginnings.{if_ok, begun_submitted}
use Rattle.long_poll.proofs.exchange.connection.Connection.carry_out.Goals as goal

pub returns-in-Submit-clause-ok : goal.returns-in-Submit-clause-ok
returns-in-Submit-clause-ok g c =
    if_ok c.submit_call.result
    (λ begun h head body made. begun_submitted c.args.self.now g.N.Clock head body c.in-Submit.call (rw (← c.in-Submit.is) made) begun h)
    c.submit_call.ensures.ok
