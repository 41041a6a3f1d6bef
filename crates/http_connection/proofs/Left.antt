-- What is known of a connection that was taken apart.
use Rattle.std.proofs.Common.{◌≡◌, ℕ, List, [], Option, Some, None, Result, Ok, Err, IfSome, OnOk, ◌∙◌}
use Rattle.std.specs.declared.convert.Into as Into
use Rattle.futures.specs.declared.future.Future as Future
use Rattle.tokio.specs.declared.io.async_read.AsyncRead as AsyncRead
use Rattle.tokio.specs.declared.io.async_write.AsyncWrite as AsyncWrite
use Rattle.http.specs.declared.request.Request.{Request}
use Rattle.http.specs.declared.response.Response.{Response}
use Rattle.http_body.specs.declared.Body as Body
use Rattle.hyper.specs.Server.{history}
use Rattle.hyper.specs.ServerDispatch.{Continues}
use Rattle.hyper.specs.ServerLink.{EndsWith}
use Rattle.hyper.specs.declared.error.Error.{Error}
use Rattle.hyper.specs.declared.server.dispatch.Dispatcher.{Dispatcher}
use Rattle.hyper.specs.declared.server.link.Link.{Link}
use Rattle.hyper.specs.declared.service.Service as Service
use Rattle.http_connection.specs.Leaves.{Leaves}

-- A connection that goes on to this one comes to what this one comes to.
abbrev pub left_before : {I S R B T E F D X : Type 0} {reader : AsyncRead.Ghosts I} {writer : AsyncWrite.Ghosts I}
    {service : Service.Ghosts S (Request R) (Response B) E F} {future : Future.Ghosts F (Result (Response B) E)} {body : Body.Ghosts B D X}
    {into : Into.Ghosts D (List ℕ)} {o : Option (Result (Unit {0}) Error)} {io : I} (old new : Dispatcher I S B T (Response B) E F)
    → Continues old new → Leaves reader writer service future body into new o io
    → Leaves reader writer service future body into old o io
left_before old new step x = record {
  last = x.last;
  same = ((x.same.0.0 ∙ step.0.0, x.same.0.1 ∙ step.0.1, x.same.0.2 ∙ step.0.2), x.same.1 ∙ step.1);
  runs = x.runs;
  ends = x.ends;
  io_is = x.io_is;
}

-- If it has ended by itself and well, nothing is left to send.
pub all_sent : {I A : Type 0} (link : Link I) (o : Option (Result A Error)) → IfSome o (EndsWith link)
    → IfSome o (λ ended. OnOk ended ((history link.core).pending ≡ []))
all_sent link (Some (Ok a)) ends = ends.0
all_sent link (Some (Err e)) ends = tt
all_sent link None ends = tt
