-- The first bytes of a request's body.
use Rattle.std.specs.Prelude.{◌≡◌, ℕ, ◌⊎◌, List, [], ◌∷◌, ◌++◌, length, take, map}
use Rattle.std.specs.Prelude.{Option, Some, None, MatchOption, Result, Ok, Err}
use Rattle.futures.specs.Runs.{Runs, After, Begins}
use Rattle.http_body.specs.declared.frame.Frame.{Frame}
use Rattle.http_body.specs.Frame.{data_of}
use Rattle.long_poll.specs.declared.body_piece.PieceFault.{PieceFault}
use Rattle.long_poll.specs.declared.exchange.fault.ExchangeFault.{ExchangeFault}
use Rattle.long_poll.specs.declared.exchange.fault.ExchangeFault.TheVariants.{BodyFailed, OutOfMemory, BellLost}

-- The most bytes of a body that are read: one more than a body may have (Lambda quotas: invocation payload).
abbrev pub most_bytes : ℕ
most_bytes = 6291457

-- The bytes of a frame's data; a frame of trailers has none.
abbrev pub IsDataOf : {D : Type 0} → (D → List ℕ → Type 0) → Frame D → List ℕ → Type 0
IsDataOf reads frame bytes = MatchOption (data_of frame) (bytes ≡ []) (λ piece. reads piece bytes)

-- What comes next of a body, from which `source` may come before and `rest` afterwards: the data of a frame; an error, after
-- which nothing is read; or its end.
abbrev pub IsNextPiece : {D E : Type 0} → (D → List ℕ → Type 0) → Runs (Result (Frame D) E) → Runs (Result (Frame D) E)
    → Option (Result (List ℕ) PieceFault) → Type 0
IsNextPiece reads source rest None = source [] None
IsNextPiece {D} reads source rest (Some (Ok bytes)) =
    (frame : Frame D) × source [] (Some (Ok frame)) × IsDataOf reads frame bytes × After source (Ok frame) rest
IsNextPiece {D} {E} reads source rest (Some (Err fault)) = (error : E) × source [] (Some (Err error))

-- The bytes of all these frames, one after the other.
abbrev pub AreDataOf : {D : Type 0} → (D → List ℕ → Type 0) → List (Frame D) → List ℕ → Type 0
AreDataOf reads [] bytes = bytes ≡ []
AreDataOf reads (frame ∷ frames) bytes =
    (first : List ℕ) × (rest : List ℕ) × (bytes ≡ first ++ rest)
    × IsDataOf reads frame first × AreDataOf reads frames rest

-- What is read of a body: the bytes that are held already, and then those of its frames, up to the most bytes. Either
-- all frames of the body came, or enough of them for the most bytes to be read.
pub record Reads {D E : Type 0} (reads : D → List ℕ → Type 0) (source : Runs (Result (Frame D) E))
    (held read : List ℕ) : Type 0 where
  pub frames : List (Frame D)
  pub bytes : List ℕ
  pub are : AreDataOf reads frames bytes
  pub first : read ≡ take most_bytes (held ++ bytes)
  pub came : source (map Ok frames) None ⊎ ((length read ≡ most_bytes) × Begins source (map Ok frames))

-- The body failed: after some frames came an error.
pub record Fails {D E : Type 0} (source : Runs (Result (Frame D) E)) : Type 0 where
  pub frames : List (Frame D)
  pub error : E
  pub came : source (map Ok frames) (Some (Err error))

-- The result of collecting a body, of which the bytes `held` are held already.
abbrev pub Collects : {D E : Type 0} → (D → List ℕ → Type 0) → Runs (Result (Frame D) E) → List ℕ
    → Result (List ℕ) ExchangeFault → Type 0
Collects reads source held (Ok read) = Reads reads source held read
Collects reads source held (Err BodyFailed) = Fails source
Collects reads source held (Err OutOfMemory) = Unit {0}
Collects reads source held (Err BellLost) = ⊥
