-- What a connection writes by a service that has another inside, the other gave.
use Rattle.std.proofs.Common.{◌≡◌, ℕ, Bool, List, [], ◌∷◌, ◌++◌, Option, Some, None, Result, Ok, IfSome, OnOk, subst}
use Rattle.std.specs.List.{AllZip}
use Rattle.futures.specs.Runs.{Runs}
use Rattle.http.specs.declared.request.Parts.{Parts as Asked}
use Rattle.http.specs.declared.request.Request.{Request}
use Rattle.http.specs.declared.response.Parts.{Parts}
use Rattle.http.specs.declared.response.Response.{Response}
use Rattle.http_body.specs.declared.frame.Frame.{Frame}
use Rattle.hyper.specs.Message.{Whole, heads_of}
use Rattle.hyper.specs.Served.{Words, CameFrom, no_piece, last_piece, IsGiven, AreGiven, none_given, next_given, Ties}
use Rattle.hyper.specs.Served as hyper
use Rattle.hyper.specs.Served.{IsOnly}
use Rattle.std.proofs.Math.Logic.{∥∥₁_map}
use Rattle.hyper.specs.Server.{history}
use Rattle.hyper.specs.declared.error.Error.{Error}
use Rattle.hyper.specs.declared.proto.server.ServerConn.{ServerConn}
use Rattle.http_connection.specs.Wires.{given_by, taken_by}
use Rattle.http_connection.specs.Written as spec
use Rattle.http_connection.specs.Written.{Gave, IsWhole, IsBegun, Written}
use Rattle.http_connection.specs.declared.wire.Wire.{Wire}

zip_push : {A B : Type 0} (P : A → B → Type 0) (xs : List A) (ys : List B) (x : A) (y : B) → AllZip P xs ys → P x y
    → AllZip P (xs ++ x ∷ []) (ys ++ y ∷ [])
zip_push P [] [] x y all last = (last, tt)
zip_push P [] (b ∷ ys) x y all last = absurd all
zip_push P (a ∷ xs) [] x y all last = absurd all
zip_push P (a ∷ xs) (b ∷ ys) x y all last = (all.0, zip_push P xs ys x y all.1 last)

module _ {S N R F G B D X E : Type 0} (calls : S → Request R → F → Type 0) (gives : F → Result (Response B) E → Type 0)
    (yields : B → Runs (Result (Frame D) X)) (has : D → List ℕ → Type 0) (within : N → S) (of : G → F) (outer : N) where
  abbrev words : Words N R G B D X E
  words = record {
    calls = λ service request future. calls (within service) request (of future);
    gives = λ future. gives (of future);
    yields = yields;
    converts = has;
  }

  abbrev answers : Asked → Response B → Type 0
  answers = Gave calls gives (within outer)

  gave : (head : Asked) (response : Response B) → hyper.Gave words outer head response → answers head response
  gave head response x = record {
    request = x.1.req;
    head_is = x.1.head_is;
    future = of x.1.first;
    called = x.1.called;
    given = x.1.within (Ok response) x.2;
  }

  abbrev Wrote : Asked → Whole Parts → Type 0
  Wrote head written = (response : Response B) × answers head response × IsWhole yields has head response written

  wrote : (head : Asked) (written : Whole Parts) → IsGiven words outer head written → Wrote head written
  wrote head written x = (x.response, gave head x.response x.gave, record { head_is = x.head_is; body_is = x.body })

  all : {heads : List Asked} {ws : List (Whole Parts)} → AreGiven words outer heads ws → AllZip Wrote heads ws
  all none_given = tt
  all (next_given heads ws head written before last) =
      zip_push Wrote heads ws head written (all before) (wrote head written last)

  begins : {body : B} {pieces : List D} → CameFrom words outer body pieces → spec.Begins yields has body pieces
  begins no_piece = spec.no_piece
  begins (last_piece pieces piece yielded) = spec.one_more pieces piece yielded

  begun : (later : List Asked) (left : Option B) (o : Option (Parts × List ℕ))
      → IfSome o (λ b. IsOnly later (λ head. hyper.IsBegun words outer head b left))
      → IfSome o (λ b. IsOnly later (λ head. (response : Response B) × answers head response × IsBegun yields has response b))
  begun later left None x = tt
  begun later left (Some b) x = (
    x.0,
    x.1,
    (
      x.2.response,
      gave x.0 x.2.response x.2.gave,
      record { head_is = x.2.head_is; pieces = x.2.pieces; joins = x.2.joins; begins = begins x.2.came },
    ),
  )

  pub written : (wire : Wire) (outcome : Option (Result (Unit {0}) Error)) (last : ServerConn) (flag : Bool)
      (in_flight : Option G) (left : Option B) (service : S) → within outer ≡ service
      → given_by wire ≡ (history last).received
      → taken_by wire ≡ (history last).sent
      → Ties words outer (heads_of (history last).taken) (history last).given flag in_flight left
      → IfSome outcome (λ ended. OnOk ended ((history last).pending ≡ []))
      → Written yields has (Gave calls gives service) wire outcome
  written wire outcome last flag in_flight left service is given taken ties sent =
      subst (λ s. Written yields has (Gave calls gives s) wire outcome) is (record {
        last = last;
        given = given;
        taken = taken;
        answered = ties.answered;
        later = ties.later;
        came = ties.split;
        whole = all ties.whole;
        begun = begun ties.later left (history last).given.begun ties.begun;
        sent = sent;
        served = ∥∥₁_map last.holds (λ x. x.served);
      })
