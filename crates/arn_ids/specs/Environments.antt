-- The environments of a configuration, each with the function that it belongs to. Functions are numbered from 1 in the
-- order of the configuration, and environments from 1 over all functions.
use Rattle.std.specs.Prelude.{ℕ, zero, suc, List, [], ◌∷◌, ◌++◌, length, map, position, bytes_eq}
use Rattle.std.specs.Prelude.{Option, None, option_map}
use Rattle.arn_ids.specs.declared.config.Config.{Config}
use Rattle.arn_ids.specs.declared.config.Function.{Function}

-- The `n` numbers from `first` on.
abbrev pub count_from : ℕ → ℕ → List ℕ
count_from first zero = []
count_from first (suc n) = first ∷ count_from (suc first) n

-- The element of a list at an index, from 0; `d` after the end.
abbrev pub at : {A : Type 0} → A → List A → ℕ → A
at d [] n = d
at d (x ∷ xs) zero = x
at d (x ∷ xs) (suc n) = at d xs n

-- The element of a list with a number, from 1; `d` if there is none.
abbrev pub numbered : {A : Type 0} → A → List A → ℕ → A
numbered d xs zero = d
numbered d xs (suc n) = at d xs n

-- The function that stands in for one that does not exist.
abbrev pub no_function : Function
no_function = record { name = []; handler = []; timeout_s = 0; reserved = None; extensions = []; slots = [] }

-- The numbers of the functions.
abbrev pub function_numbers : Config → List ℕ
function_numbers config = count_from 1 (length config.functions)

-- The configuration of the function with a number.
abbrev pub function_at : Config → ℕ → Function
function_at config f = numbered no_function config.functions f

-- The function of each environment with the function's number first, in the order of the environments; the functions
-- are numbered from `f` on.
abbrev pub owners_from : ℕ → List Function → List (ℕ × Function)
owners_from f [] = []
owners_from f (function ∷ functions) = map (λ _. (f, function)) function.slots ++ owners_from (suc f) functions

-- The function of each environment of the configuration, with the function's number first.
abbrev pub owners : Config → List (ℕ × Function)
owners config = owners_from 1 config.functions

-- The numbers of the environments.
abbrev pub environments : Config → List ℕ
environments config = count_from 1 (length (owners config))

-- The function of an environment: its number and its configuration.
abbrev pub owner_of : Config → ℕ → ℕ × Function
owner_of config e = numbered (0, no_function) (owners config) e

-- The number of an environment's function.
abbrev pub function_of : Config → ℕ → ℕ
function_of config e = (owner_of config e).0

-- The timeout of an environment's function, in seconds.
abbrev pub timeout_of : Config → ℕ → ℕ
timeout_of config e = (owner_of config e).1.timeout_s

-- The names of the extensions that an environment waits for in its Init.
abbrev pub expected_at : Config → ℕ → List (List ℕ)
expected_at config e = (owner_of config e).1.extensions

-- The number of the first function with a name. A configuration without a fault has no second one.
abbrev pub number_named : Config → List ℕ → Option ℕ
number_named config name = option_map suc (position (λ function. bytes_eq function.name name) config.functions)
