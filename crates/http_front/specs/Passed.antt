-- The body of a handler's answer while it is passed on.
use Rattle.std.specs.Prelude.{◌≡◌, Bool, true, false, ℕ, ◌<◌, ◌≤◌, List, [], ◌∷◌, length, Option, Some, None, Result, Ok, Err}
use Rattle.futures.specs.Runs.{Ends}
use Rattle.handover.specs.Pipes.{IsPiece}
use Rattle.long_poll.specs.declared.body_piece.PieceFault.{PieceFault}
use Rattle.http_body.specs.Frame.{data_frame}
use Rattle.http_body.specs.declared.frame.Frame.{Frame}
use Rattle.handover.specs.declared.pipe.Taken.{Taken}
use Rattle.handover.specs.declared.pipe.Taken.TheVariants as takes
use Rattle.http_front.specs.declared.at_desk.passed.PassedFault.{PassedFault}
use Rattle.http_front.specs.declared.at_desk.passed.PassedFault.TheVariants.{BrokenOff}

-- What is shown of what was taken: a piece as a frame of data; the end; or that the body has broken off.
abbrev pub shown : Taken → Option (Result (Frame (List ℕ)) PassedFault)
shown (takes.Piece bytes) = Some (Ok (data_frame bytes))
shown takes.Nothing = Some (Err BrokenOff)
shown takes.Whole = None
shown takes.Broken = Some (Err BrokenOff)

abbrev pub is_last : Taken → Bool
is_last (takes.Piece bytes) = false
is_last takes.Nothing = true
is_last takes.Whole = true
is_last takes.Broken = true

-- A frame of data: at least one byte, and at most 64 KiB.
abbrev pub IsPieceFrame : Frame (List ℕ) → Type 0
IsPieceFrame frame = (bytes : List ℕ) × (frame ≡ data_frame bytes) × IsPiece bytes

-- What comes last, of a body that is open: a piece, that the body has broken off, or its end.
abbrev pub IsPassedLast : Option (Result (Frame (List ℕ)) PassedFault) → Type 0
IsPassedLast None = Unit {0}
IsPassedLast (Some (Ok frame)) = IsPieceFrame frame
IsPassedLast (Some (Err fault)) = Unit {0}

-- What such a body may yield: pieces, and then one of these; nothing follows an error.
abbrev pub PassesOn : List (Result (Frame (List ℕ)) PassedFault) → Option (Result (Frame (List ℕ)) PassedFault) → Type 0
PassesOn [] last = IsPassedLast last
PassesOn (Ok frame ∷ frames) last = IsPieceFrame frame × PassesOn frames last
PassesOn (Err fault ∷ frames) last = Ends frames last

-- What a body may yield that has ended or not.
abbrev pub Passes : Bool → List (Result (Frame (List ℕ)) PassedFault) → Option (Result (Frame (List ℕ)) PassedFault) → Type 0
Passes true frames last = Ends frames last
Passes false frames last = PassesOn frames last

-- What has come of the body of a post: its end, or a piece of these bytes.
abbrev pub came : Bool → List ℕ → Option (Result (List ℕ) PieceFault)
came true bytes = None
came false bytes = Some (Ok bytes)
