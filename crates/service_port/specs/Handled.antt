-- The ports all of whose requests are handed over.
use Rattle.std.specs.Prelude.{ℕ, Bool, ◌==◌, ◌&&◌, ◌++◌, not, nat_lt, if◌then◌else◌, List, [], ◌∷◌, length, Option, Some, None}
use Rattle.std.specs.Prelude.{option_and_then}
use Rattle.std.specs.List.{list_any, slice_split}
use Rattle.arn_ids.specs.Numbers.{from_one, number_in}

-- The port that a text names: decimal, from 1 to 65,535, without leading zeros.
abbrev pub port_in : List ℕ → Option ℕ
port_in text = option_and_then from_one (number_in 65535 text)

-- Whether a port is one of these.
abbrev pub is_one_of : List ℕ → ℕ → Bool
is_one_of ports port = list_any (λ other. other == port) ports

-- These ports and one more. `None` if it is one of them, or they are 64 already.
abbrev pub with_port : List ℕ → ℕ → Option (List ℕ)
with_port ports port =
    if nat_lt (length ports) 64 && not (is_one_of ports port) then Some (ports ++ (port ∷ [])) else None

-- These ports and that of a text. `None` if it names no port, or one that cannot be added.
abbrev pub with_named : List ℕ → List ℕ → Option (List ℕ)
with_named ports text = option_and_then (with_port ports) (port_in text)

-- These ports and those of these texts, in their order. `None` if that of a text cannot be added.
abbrev pub with_all : List ℕ → List (List ℕ) → Option (List ℕ)
with_all ports [] = Some ports
with_all ports (text ∷ texts) = option_and_then (λ more. with_all more texts) (with_named ports text)

-- The ports that a text lists: separated by commas, each once, at most 64. An empty text lists none.
abbrev pub listed_in : List ℕ → Option (List ℕ)
listed_in text = if length text == 0 then Some [] else with_all [] (slice_split (λ b. b == 44) text)
