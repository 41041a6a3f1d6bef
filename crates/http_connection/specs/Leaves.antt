-- What becomes of a connection that is taken apart.
use Rattle.std.specs.Prelude.{◌≡◌, ℕ, List, Option, Result, IfSome}
use Rattle.std.specs.declared.convert.Into as Into
use Rattle.futures.specs.declared.future.Future as Future
use Rattle.tokio.specs.declared.io.async_read.AsyncRead as AsyncRead
use Rattle.tokio.specs.declared.io.async_write.AsyncWrite as AsyncWrite
use Rattle.http.specs.declared.request.Request.{Request}
use Rattle.http.specs.declared.response.Response.{Response}
use Rattle.http_body.specs.declared.Body as Body
use Rattle.hyper.specs.declared.error.Error.{Error}
use Rattle.hyper.specs.declared.service.Service as Service
use Rattle.hyper.specs.declared.server.dispatch.Dispatcher.{Dispatcher}
use Rattle.hyper.specs.ServerDispatch.{Continues, Runs}
use Rattle.hyper.specs.ServerLink.{EndsWith}

module _ {I S R B T E F D X : Type 0} (reader : AsyncRead.Ghosts I) (writer : AsyncWrite.Ghosts I)
    (service : Service.Ghosts S (Request R) (Response B) E F) (future : Future.Ghosts F (Result (Response B) E)) (body : Body.Ghosts B D X)
    (into : Into.Ghosts D (List ℕ)) where
  -- The connection went on to a last state, whose IO this is. If there is an outcome, it ended there with that.
  pub record Leaves (d : Dispatcher I S B T (Response B) E F) (o : Option (Result (Unit {0}) Error)) (io : I) : Type 0 where
    pub last : Dispatcher I S B T (Response B) E F
    pub same : Continues d last
    pub runs : Runs reader writer service future body into last
    pub ends : IfSome o (EndsWith last.link)
    pub io_is : io ≡ last.link.io
