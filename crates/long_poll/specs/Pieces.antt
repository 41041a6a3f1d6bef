-- The pieces in which a text is shown.
use Rattle.std.specs.Prelude.{◌≡◌, ℕ, List, [], ◌++◌, Option, Some, None}
use Rattle.http_body.specs.declared.frame.Frame.{Frame}
use Rattle.http_body.specs.Frame.{data_frame}

-- What is left of a text, if anything.
abbrev pub text_left : Option (List ℕ) → List ℕ
text_left None = []
text_left (Some text) = text

-- The frame is the first piece of a text, of which this is left: the piece, and then what is left, are the text. Only of
-- an empty text is the piece empty, and nothing is left.
pub record IsPiece (text : List ℕ) (frame : Frame (List ℕ)) (left : Option (List ℕ)) : Type 0 where
  pub piece : List ℕ
  pub shown : frame ≡ data_frame piece
  pub joined : text ≡ piece ++ text_left left
  pub some : piece ≡ [] → (text ≡ []) × (left ≡ None)
