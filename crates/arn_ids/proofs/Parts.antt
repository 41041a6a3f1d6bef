-- A text has at least one part, so nine parts and more are in no shape.
use Rattle.std.proofs.Common.{◌≡◌, ℕ, Bool, true, false, cond, List, [], ◌∷◌, refl, None}
use Rattle.std.specs.List.{onto_first}
use Rattle.std.specs.Prelude.{◌==◌}
use Rattle.arn_ids.specs.Grammar.{parts, shape}

begins_onto : (b : Bool) (x : ℕ) (rest : List (List ℕ)) → (p : List ℕ) × (ps : List (List ℕ)) × (rest ≡ p ∷ ps)
    → (p : List ℕ) × (ps : List (List ℕ)) × (cond b ([] ∷ rest) (onto_first x rest) ≡ p ∷ ps)
begins_onto true x rest h = ([], rest, refl)
begins_onto false x rest (p, ps, e) = (x ∷ p, ps, rw e refl)

pub parts_begin : (text : List ℕ) → (p : List ℕ) × (ps : List (List ℕ)) × (parts text ≡ p ∷ ps)
parts_begin [] = ([], [], refl)
parts_begin (x ∷ xs) = begins_onto (x == 58) x (parts xs) (parts_begin xs)

pub shape_long : (a b c d e f g h text : List ℕ) → shape (a ∷ b ∷ c ∷ d ∷ e ∷ f ∷ g ∷ h ∷ parts text) ≡ None
shape_long a b c d e f g h text = let at = parts_begin text in rw at.2 refl
