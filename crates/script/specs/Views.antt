-- The fields of a line as the code holds them.
use Rattle.std.specs.Prelude.{ℕ, List, [], Option, Some, None}
use Rattle.std.specs.Borrow.{Bor}
use Rattle.script.specs.Lines.{fields}

-- The fields of the rest of a line; no fields if nothing is left.
abbrev pub fields_left : Option (Bor (List ℕ)) → List (List ℕ)
fields_left None = []
fields_left (Some rest) = fields rest.now

-- The text that a reference points to. The next three definitions do the same for two, three and four references.
abbrev pub text_of : Bor (List ℕ) → List ℕ
text_of text = text.now

abbrev pub two_of : Bor (List ℕ) × Bor (List ℕ) → List ℕ × List ℕ
two_of two = (two.0.now, two.1.now)

abbrev pub three_of : Bor (List ℕ) × Bor (List ℕ) × Bor (List ℕ) → List ℕ × List ℕ × List ℕ
three_of three = (three.0.now, three.1.now, three.2.now)

abbrev pub four_of : Bor (List ℕ) × Bor (List ℕ) × Bor (List ℕ) × Bor (List ℕ) → List ℕ × List ℕ × List ℕ × List ℕ
four_of four = (four.0.now, four.1.now, four.2.now, four.3.now)
