use Rattle.std.proofs.Common.{◌≡◌, ℕ, not, ap, refl, ◌∙◌}
use Rattle.std.proofs.Math.Dec.{eqb}
use Rattle.std.proofs.lemmas.Bool.{eq-eqb}
use Rattle.std.specs.Prelude.{Option, Some, None}
use Rattle.std.specs.Option.{option_eq}
use Rattle.call_model.specs.Stand.{is_number}
use Rattle.account_book.proofs.premature.is_in_way.Goals as goal

is_0 : (reserved : Option ℕ) → option_eq eqb reserved (Some 0) ≡ is_number reserved 0
is_0 None = refl
is_0 (Some n) = refl

pub returns-then-own-function : goal.returns-then-own-function
returns-then-own-function c =
    rw (c.in-Function.is, eq-eqb _ _ c.if-own-function.true, ← c.reservation-then-own-function.ensures)
    (c.ne.ensures ∙ ap not (is_0 c.reservation-then-own-function.result))
