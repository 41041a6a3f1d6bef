-- The faults of a configuration, and which of them comes first.
use Rattle.std.specs.Prelude.{ℕ, ◌+◌, Bool, true, false, not, ◌&&◌, ◌||◌, ◌==◌, nat_eq, nat_le, nat_lt, List, [], ◌∷◌}
use Rattle.std.specs.Prelude.{◌++◌, length, map, sum_by, bytes_eq, Option, Some, None, unwrap_or}
use Rattle.std.specs.List.{list_any, flat_map}
use Rattle.arn_ids.specs.Words.{is_account, is_region, is_name, is_label}
use Rattle.arn_ids.specs.Limits.{most_environments, most_extensions}
use Rattle.arn_ids.specs.Environments.{owners}
use Rattle.arn_ids.specs.declared.config.Slot.{Slot}
use Rattle.arn_ids.specs.declared.config.Function.{Function}
use Rattle.arn_ids.specs.declared.config.Config.{Config}
use Rattle.arn_ids.specs.declared.faults.ConfigFault.{ConfigFault}
use Rattle.arn_ids.specs.declared.faults.ConfigFault.TheVariants.{BadAccount, BadRegion, BadAccountLimit}
use Rattle.arn_ids.specs.declared.faults.ConfigFault.TheVariants.{BadLeastRemainder, TooManyFunctions, BadName}
use Rattle.arn_ids.specs.declared.faults.ConfigFault.TheVariants.{DuplicateName, BadHandler, BadTimeout, NoEnvironment}
use Rattle.arn_ids.specs.declared.faults.ConfigFault.TheVariants.{TooManyEnvironments, BadPort, DuplicatePort}
use Rattle.arn_ids.specs.declared.faults.ConfigFault.TheVariants.{TooManyExtensions, BadExtension, DuplicateExtension}
use Rattle.arn_ids.specs.declared.faults.ConfigFault.TheVariants.{ReservationAboveEnvironments, RemainderTooSmall}

-- Whether a number is at least `low` and at most `high`.
abbrev pub is_between : ℕ → ℕ → ℕ → Bool
is_between low high n = nat_le low n && nat_le n high

-- Whether an element occurs again later in the list.
abbrev pub repeats : {A : Type 0} → (A → A → Bool) → List A → Bool
repeats same [] = false
repeats same (x ∷ xs) = list_any (same x) xs || repeats same xs

-- Whether two functions have the same name.
abbrev pub is_namesake : Function → Function → Bool
is_namesake function other = bytes_eq function.name other.name

-- The port of an environment.
abbrev pub port_of : Slot → ℕ
port_of slot = slot.port

-- The ports of a function, one for each of its environments.
abbrev pub ports_of : Function → List ℕ
ports_of function = map port_of function.slots

-- The ports of all environments.
abbrev pub environment_ports : List Function → List ℕ
environment_ports = flat_map ports_of

-- All ports, the callers' port first.
abbrev pub ports : Config → List ℕ
ports config = config.invoke_port ∷ environment_ports config.functions

-- The reservation of a function; 0 without one, since it then takes nothing of the account's limit.
abbrev pub reservation_of : Function → ℕ
reservation_of function = unwrap_or function.reserved 0

-- Whether the account is not twelve digits.
unfoldable pub has_bad_account : Config → Bool
has_bad_account config = not (is_account config.home.account)

-- Whether the region is malformed.
unfoldable pub has_bad_region : Config → Bool
has_bad_region config = not (is_region config.home.region)

-- Whether the account's limit is not between 1 and 1,000,000.
unfoldable pub has_bad_account_limit : Config → Bool
has_bad_account_limit config = not (is_between 1 1000000 config.account_limit)

-- Whether the least remainder is above the account's limit.
unfoldable pub has_bad_least_remainder : Config → Bool
has_bad_least_remainder config = nat_lt config.account_limit config.least_remainder

-- Whether there are more than 64 functions.
unfoldable pub has_too_many_functions : Config → Bool
has_too_many_functions config = nat_lt 64 (length config.functions)

-- Whether the name of a function is malformed.
unfoldable pub has_bad_name : Config → Bool
has_bad_name config = list_any (λ function. not (is_name function.name)) config.functions

-- Whether two functions have the same name.
unfoldable pub has_duplicate_name : Config → Bool
has_duplicate_name config = repeats is_namesake config.functions

-- Whether a handler is malformed.
unfoldable pub has_bad_handler : Config → Bool
has_bad_handler config = list_any (λ function. not (is_label function.handler)) config.functions

-- Whether a timeout is not between 1 and 900 seconds.
unfoldable pub has_bad_timeout : Config → Bool
has_bad_timeout config = list_any (λ function. not (is_between 1 900 function.timeout_s)) config.functions

-- Whether a function has no port.
unfoldable pub has_function_without_environment : Config → Bool
has_function_without_environment config = list_any (λ function. length function.slots == 0) config.functions

-- Whether there are more than 256 environments over all functions.
unfoldable pub has_too_many_environments : Config → Bool
has_too_many_environments config = nat_lt most_environments (length (owners config))

-- Whether a port is 0.
unfoldable pub has_bad_port : Config → Bool
has_bad_port config = list_any (nat_eq 0) (ports config)

-- Whether a port is used twice.
unfoldable pub has_duplicate_port : Config → Bool
has_duplicate_port config = repeats nat_eq (ports config)

-- Whether a function expects more than ten extensions.
unfoldable pub has_too_many_extensions : Config → Bool
has_too_many_extensions config =
    list_any (λ function. nat_lt most_extensions (length function.extensions)) config.functions

-- Whether the name of an extension is malformed.
unfoldable pub has_bad_extension : Config → Bool
has_bad_extension config =
    list_any (λ function. list_any (λ name. not (is_label name)) function.extensions) config.functions

-- Whether a function expects two extensions with the same name; different functions may expect the same.
unfoldable pub has_duplicate_extension : Config → Bool
has_duplicate_extension config = list_any (λ function. repeats bytes_eq function.extensions) config.functions

-- Whether a function reserves more than it has environments.
unfoldable pub has_reservation_above_environments : Config → Bool
has_reservation_above_environments config =
    list_any (λ function. nat_lt (length function.slots) (reservation_of function)) config.functions

-- Whether the reservations and the least remainder together exceed the account's limit.
unfoldable pub has_too_small_remainder : Config → Bool
has_too_small_remainder config =
    nat_lt config.account_limit (config.least_remainder + sum_by reservation_of config.functions)

-- The fault of the first condition that holds.
abbrev pub earliest : List (Bool × ConfigFault) → Option ConfigFault
earliest [] = None
earliest ((true, fault) ∷ later) = Some fault
earliest ((false, fault) ∷ later) = earliest later

-- The faults of the account itself, each with its condition.
abbrev pub account_faults : Config → List (Bool × ConfigFault)
account_faults config =
    (has_bad_account config, BadAccount) ∷
    (has_bad_region config, BadRegion) ∷
    (has_bad_account_limit config, BadAccountLimit) ∷
    (has_bad_least_remainder config, BadLeastRemainder) ∷ []

-- The faults of the functions, each with its condition: of a single function, or of several together.
abbrev pub function_faults : Config → List (Bool × ConfigFault)
function_faults config =
    (has_too_many_functions config, TooManyFunctions) ∷
    (has_bad_name config, BadName) ∷
    (has_duplicate_name config, DuplicateName) ∷
    (has_bad_handler config, BadHandler) ∷
    (has_bad_timeout config, BadTimeout) ∷
    (has_function_without_environment config, NoEnvironment) ∷
    (has_too_many_environments config, TooManyEnvironments) ∷ []

-- The faults of ports, extensions and reservations, each with its condition.
abbrev pub environment_faults : Config → List (Bool × ConfigFault)
environment_faults config =
    (has_bad_port config, BadPort) ∷
    (has_duplicate_port config, DuplicatePort) ∷
    (has_too_many_extensions config, TooManyExtensions) ∷
    (has_bad_extension config, BadExtension) ∷
    (has_duplicate_extension config, DuplicateExtension) ∷
    (has_reservation_above_environments config, ReservationAboveEnvironments) ∷
    (has_too_small_remainder config, RemainderTooSmall) ∷ []

-- The fault for which a configuration is refused, if any: the whole configuration is checked for each fault before the
-- next.
unfoldable pub first_fault : Config → Option ConfigFault
first_fault config = earliest (account_faults config ++ function_faults config ++ environment_faults config)
