-- What is written to a connection.
use Rattle.std.specs.Prelude.{◌≡◌, ◌⊎◌, ℕ, List, [], ◌∷◌, ◌++◌, Option, Some, None, Result, Ok, Err, IfSome, OnOk}
use Rattle.std.specs.List.{AllZip, concat}
use Rattle.futures.specs.Runs.{Runs}
use Rattle.http.specs.Request.{head_of}
use Rattle.http.specs.Response.{body_of}
use Rattle.http.specs.declared.request.Parts.{Parts as Asked}
use Rattle.http.specs.declared.request.Request.{Request}
use Rattle.http.specs.declared.response.Parts.{Parts}
use Rattle.http.specs.declared.response.Response.{Response}
use Rattle.http_body.specs.Frame.{data_frame, trailers_frame}
use Rattle.http_body.specs.declared.frame.Frame.{Frame}
use Rattle.hyper.specs.Fields.{AreAmong}
use Rattle.hyper.specs.Message.{Whole, heads_of}
use Rattle.hyper.specs.Served.{frames_of, IsHeadOf, IsBodiless, IsOnly}
use Rattle.hyper.specs.Server.{history}
use Rattle.hyper.specs.ServerCore.{IsServed}
use Rattle.hyper.specs.declared.error.Error.{Error}
use Rattle.hyper.specs.declared.proto.server.ServerConn.{ServerConn}
use Rattle.http_connection.specs.Wires.{given_by, taken_by}
use Rattle.http_connection.specs.declared.wire.Wire.{Wire}

-- How a connection ended, if it ended by itself.
abbrev pub outcome_of : {A F : Type 0} → Result (Option A) F → Option A
outcome_of (Ok ended) = ended
outcome_of (Err fault) = None

-- The service gave this response to a request with this head.
pub record Gave {S R F B E : Type 0} (calls : S → Request R → F → Type 0) (gives : F → Result (Response B) E → Type 0)
    (service : S) (head : Asked) (response : Response B) : Type 0 where
  pub request : Request R
  pub head_is : head_of request ≡ head
  pub future : F
  pub called : calls service request future
  pub given : gives future (Ok response)

-- In what follows, `yields` says which frames the body of a response yields, and `has` which bytes the data of a frame
-- has.
module _ {B D X : Type 0} (yields : B → Runs (Result (Frame D) X)) (has : D → List ℕ → Type 0) where
  -- The bytes are those of the pieces, joined.
  abbrev pub Joins : List D → List ℕ → Type 0
  Joins pieces bytes = (parts : List (List ℕ)) × AllZip has pieces parts × (bytes ≡ concat parts)

  -- These pieces are the first that the body yields.
  pub data Begins (body : B) : List D → Type 0 where
    no_piece : Begins body []
    one_more : (pieces : List D) (piece : D) → yields body (frames_of pieces) (Some (Ok (data_frame piece)))
        → Begins body (pieces ++ piece ∷ [])

  -- After these pieces the body ends, or it yields trailers, of which some were written.
  abbrev pub Ends : B → List D → Whole Parts → Type 0
  Ends body pieces written =
      (yields body (frames_of pieces) None × (written.trailers ≡ []))
      ⊎ ((map : _) × yields body (frames_of pieces) (Some (Ok (trailers_frame map)))
      × ((written.trailers ≡ []) ⊎ AreAmong written.trailers map))

  -- The whole response to a request with this head was written: its status; its header fields, except those that frame
  -- a body; and its body, or no body if none may follow.
  pub record IsWhole (head : Asked) (response : Response B) (written : Whole Parts) : Type 0 where
    pub head_is : IsHeadOf written.head response
    pub body_is : (IsBodiless head written.head × (written.bytes ≡ []) × (written.trailers ≡ []))
        ⊎ ((pieces : List D) × Joins pieces written.bytes × Ends (body_of response) pieces written)

  -- The beginning of a response was written: its head, and the first pieces of its body.
  pub record IsBegun (response : Response B) (begun : Parts × List ℕ) : Type 0 where
    pub head_is : IsHeadOf begun.0 response
    pub pieces : List D
    pub joins : Joins pieces begun.1
    pub begins : Begins (body_of response) pieces

  module _ (answers : Asked → Response B → Type 0) where
    -- All that passed through a connection's socket: it gave the bytes of requests, and took whole responses, one for
    -- each of the first requests, in their order; after them, at most the beginning of one more response, to the next
    -- request. `last` is the connection as it was left, with the bytes that it read and wrote, all that it made of the
    -- former, and all of which the latter are the beginning. If it ended by itself and well, nothing is left to send.
    pub record Written (wire : Wire) (outcome : Option (Result (Unit {0}) Error)) : Type 0 where
      pub last : ServerConn
      pub given : given_by wire ≡ (history last).received
      pub taken : taken_by wire ≡ (history last).sent
      pub served : ∥ IsServed (history last) ∥₁
      pub answered : List Asked
      pub later : List Asked
      pub came : heads_of (history last).taken ≡ answered ++ later
      pub whole : AllZip
          (λ head written. (response : Response B) × answers head response × IsWhole head response written)
          answered (history last).given.ended
      pub begun : IfSome (history last).given.begun
          (λ begun. IsOnly later (λ head. (response : Response B) × answers head response × IsBegun response begun))
      pub sent : IfSome outcome (λ ended. OnOk ended ((history last).pending ≡ []))
