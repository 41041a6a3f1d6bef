use Rattle.http_connection.proofs.Left.{left_before}
use Rattle.http_connection.proofs.turns.ConnectionTurns.turn.Goals as goal

pub returns-clause-same : goal.returns-clause-same
returns-clause-same g c = λ o io x. left_before c.args.self.now.conn _ c.poll_without_shutdown.ensures.same x
