-- Numbers in texts: decimal, without leading zeros, each with a greatest value.
use Rattle.std.specs.Prelude.{ℕ, ◌+◌, ◌-◌, ◌*◌, ◌&&◌, ◌==◌, nat_le, if◌then◌else◌, List, [], ◌∷◌, length}
use Rattle.std.specs.Prelude.{Option, Some, None, option_and_then}
use Rattle.arn_ids.specs.Words.{is_digit}
use Rattle.arn_ids.specs.Environments.{owners}
use Rattle.arn_ids.specs.declared.config.Config.{Config}

-- The number that `n` becomes when these digits follow it; `None` if it exceeds `most`.
abbrev pub digits_in : ℕ → ℕ → List ℕ → Option ℕ
digits_in most n [] = Some n
digits_in most n (b ∷ bs) =
    if is_digit b && nat_le (10 * n + (b - 48)) most then digits_in most (10 * n + (b - 48)) bs else None

-- The number of a text, at most `most`: one digit, or more digits of which the first is not 0.
abbrev pub number_in : ℕ → List ℕ → Option ℕ
number_in most [] = None
number_in most (b ∷ []) = digits_in most 0 (b ∷ [])
number_in most (b ∷ c ∷ bs) = if b == 48 then None else digits_in most 0 (b ∷ c ∷ bs)

-- A number that is not 0.
abbrev pub from_one : ℕ → Option ℕ
from_one n = if nat_le 1 n then Some n else None

-- The number of an environment of the configuration, from a text.
abbrev pub env_in : Config → List ℕ → Option ℕ
env_in config text = option_and_then from_one (number_in (length (owners config)) text)
