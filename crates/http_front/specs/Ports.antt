-- The ports of a configuration, and of handlers.
use Rattle.std.specs.Prelude.{ℕ, ◌+◌, ◌*◌, ◌-◌, ◌^◌, ◌==◌, min, max, Bool, ◌||◌, not, List, length, get_or}
use Rattle.std.specs.Prelude.{flat_map, map}
use Rattle.std.specs.List.{list_any}
use Rattle.arn_ids.specs.Environments.{owners}
use Rattle.arn_ids.specs.Limits.{most_extensions}
use Rattle.arn_ids.specs.declared.config.Config.{Config}
use Rattle.arn_ids.specs.declared.config.Slot.{Slot}
use Rattle.service_port.specs.declared.port.Port.TheVariants.{Account, Environment, Handled}
use Rattle.service_port.specs.declared.port.Port.{Port}

-- The greatest number of connections at once: one for each poll of all environments, each with its runtime and the
-- most extensions, and 128 for callers; at least 1,024. (A configuration has up to 256 environments.)
abbrev pub places_for : Config → ℕ
places_for config = max 1024 (min ((most_extensions + 1) * length (owners config) + 128) (2 ^ 32 - 1))

-- The ports of environments.
abbrev pub ports_of : List Slot → List ℕ
ports_of slots = map (λ slot. slot.port) slots

-- The loopback ports of all environments, in the order of their numbers.
abbrev pub environment_ports : Config → List ℕ
environment_ports config = flat_map (λ function. ports_of function.slots) config.functions

-- The number of a port: the account's, that of its environment, or its own.
abbrev pub number_of : Config → Port → ℕ
number_of config Account = config.invoke_port
number_of config (Environment e) = get_or (environment_ports config) (e - 1) 0
number_of config (Handled number) = number

-- Whether a number is that of a port of the configuration.
abbrev pub is_configured : Config → ℕ → Bool
is_configured config number =
    (config.invoke_port == number) || list_any (λ other. other == number) (environment_ports config)

-- Whether none of these numbers is that of a port of the configuration.
abbrev pub are_apart : Config → List ℕ → Bool
are_apart config numbers = not (list_any (is_configured config) numbers)
