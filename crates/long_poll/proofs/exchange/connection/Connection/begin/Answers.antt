use Rattle.std.proofs.Common.{rules}
use Rattle.long_poll.proofs.Beginnings.{if_ok}
use Rattle.long_poll.proofs.exchange.connection.Connection.begin.Goals as goal

pub returns-clause-ok : goal.returns-clause-ok
returns-clause-ok g c =
    if_ok c.carry_out.result (λ begun h. h c.args.parts.now c.args.body.now (search rules)) c.carry_out.ensures.ok

pub returns-clause-alike : goal.returns-clause-alike
returns-clause-alike g c = λ long.
    if_ok c.carry_out.result (λ begun h other longer. h c.args.parts.now other (search rules)) c.carry_out.ensures.ok
