use Rattle.std.proofs.Common.{rules, ap, ◌∙◌}
use Rattle.http_connection.proofs.Inner.{written}
use Rattle.http_connection.proofs.Left.{all_sent}
use Rattle.http_connection.proofs.Moved.{passed}
use Rattle.http_connection.proofs.event_loop.EventLoop.serve.Goals as goal

pub returns : goal.returns
returns g c =
    let left = c.wait_for.ensures in
    let last = left.last in
    let bytes =
    passed last.link c.args.ends.wire c.wait_for.result.io c.requires.fresh left.runs.tracked
    (ap (λ log. log.items) left.same.0.0 ∙ c.serve_connection-conn.ensures.new.0.1) left.io_is in
    record {
      written =
          written
          g.V.Service.calls
          g.V.Future.Future.gives
          g.B.Body.yields
          g.B.Data.Into.converts
          (λ noting. noting.service)
          (λ noted. noted.future)
          last.service
          c.wait_for.result.io
          _
          last.link.core
          last.asked.is_head
          last.in_flight
          last.body_rx
          c.args.service
          (search rules)
          bytes.0
          bytes.1
          left.runs.tied
          (all_sent last.link _ left.ends);
      same = bytes.2;
    }
