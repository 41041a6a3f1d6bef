-- What is left of a line has at least one field.
use Rattle.std.proofs.Common.{◌≡◌, ℕ, ◌==◌, List, ◌∷◌, None, refl}
use Rattle.call_types.specs.declared.call.Call.{Call}
use Rattle.script.specs.Lines.{fields, one_field, alone}
use Rattle.arn_ids.proofs.Pieces.{pieces_begin}

pub too_many : (a more : List ℕ) → one_field (a ∷ fields more) ≡ None
too_many a more = rw (pieces_begin (λ b. b == 32) more).2 refl

pub not_alone : (call : Call) (more : List ℕ) → alone call (fields more) ≡ None
not_alone call more = rw (pieces_begin (λ b. b == 32) more).2 refl
