-- What answers in one way answers in another that asks for less.
use Rattle.std.proofs.Common.{ℕ, List, [], ◌∷◌, Option, Some, None, Result, IfSome}
use Rattle.std.specs.List.{AllZip}
use Rattle.futures.specs.Runs.{Runs}
use Rattle.http.specs.declared.request.Parts.{Parts as Asked}
use Rattle.http.specs.declared.response.Parts.{Parts}
use Rattle.http.specs.declared.response.Response.{Response}
use Rattle.http_body.specs.declared.frame.Frame.{Frame}
use Rattle.hyper.specs.Message.{Whole}
use Rattle.hyper.specs.Served.{IsOnly}
use Rattle.hyper.specs.Server.{history}
use Rattle.hyper.specs.declared.error.Error.{Error}
use Rattle.http_connection.specs.Written.{IsWhole, IsBegun, Written}
use Rattle.http_connection.specs.declared.wire.Wire.{Wire}

module _ {B D X : Type 0} (yields : B → Runs (Result (Frame D) X)) (has : D → List ℕ → Type 0)
    (answers less : Asked → Response B → Type 0)
    (weaken : (head : Asked) (response : Response B) → answers head response → less head response) where
  all : (heads : List Asked) (ws : List (Whole Parts))
      → AllZip (λ head written. (response : Response B) × answers head response × IsWhole yields has head response written) heads ws
      → AllZip (λ head written. (response : Response B) × less head response × IsWhole yields has head response written) heads ws
  all [] [] x = tt
  all [] (w ∷ ws) x = absurd x
  all (head ∷ heads) [] x = absurd x
  all (head ∷ heads) (w ∷ ws) x = ((x.0.0, weaken head x.0.0 x.0.1, x.0.2), all heads ws x.1)

  begun : (later : List Asked) (o : Option (Parts × List ℕ))
      → IfSome o (λ b. IsOnly later (λ head. (response : Response B) × answers head response × IsBegun yields has response b))
      → IfSome o (λ b. IsOnly later (λ head. (response : Response B) × less head response × IsBegun yields has response b))
  begun later None x = tt
  begun later (Some b) x = (x.0, x.1, (x.2.0, weaken x.0 x.2.0 x.2.1, x.2.2))

  pub weakened : (wire : Wire) (outcome : Option (Result (Unit {0}) Error)) → Written yields has answers wire outcome
      → Written yields has less wire outcome
  weakened wire outcome x = record {
    last = x.last;
    given = x.given;
    taken = x.taken;
    served = x.served;
    answered = x.answered;
    later = x.later;
    came = x.came;
    whole = all x.answered (history x.last).given.ended x.whole;
    begun = begun x.later (history x.last).given.begun x.begun;
    sent = x.sent;
  }
