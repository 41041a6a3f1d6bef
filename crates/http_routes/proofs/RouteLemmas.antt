-- A route that was inserted.
use Rattle.std.proofs.Common.{◌≡◌, Result, Ok, Err, OnOk}
use Rattle.matchit.specs.Router.{InsertsRead}
use Rattle.matchit.specs.Route.{Scan}
use Rattle.matchit.specs.declared.error.InsertError.{InsertError}
use Rattle.http_routes.specs.Routes.{RowsFor, with_read}

pub inserted : {R : Type 0} (read : Result Scan InsertError) (route : R) (old new : RowsFor R) (r : Result (Unit {0}) InsertError)
    → InsertsRead read route old new r → OnOk r (new ≡ with_read read route old)
inserted (Ok s) route old new (Ok u) h = h.1
inserted (Err e) route old new (Ok u) h = h.0
inserted read route old new (Err e) h = tt
