-- The parts of a header and the values of a query, as the code holds them.
use Rattle.std.specs.Prelude.{ℕ, List, [], ◌∷◌, Option, Some, None}
use Rattle.std.specs.Borrow.{Bor}
use Rattle.http_routes.specs.Heads.{parts}

-- The parts of what is left; none if nothing is left.
abbrev pub parts_left : Option (Bor (List ℕ)) → List (List ℕ)
parts_left None = []
parts_left (Some rest) = parts rest.now

-- The text that a reference points to.
abbrev pub text_of : Bor (List ℕ) → List ℕ
text_of text = text.now

-- The value that was found, if one was, and the values after it.
abbrev pub value_before : Option (List ℕ) → List (List ℕ) → List (List ℕ)
value_before None values = values
value_before (Some value) values = value ∷ values
