-- The numbers of a configuration are in the ranges of their types.
use Rattle.std.specs.Prelude.{ℕ, ◌<◌, ◌^◌, Option, Some, None, All}
use Rattle.arn_ids.specs.declared.config.Slot.{Slot}
use Rattle.arn_ids.specs.declared.config.Function.{Function}
use Rattle.arn_ids.specs.declared.config.Config.{Config}

-- A port below 2^16.
abbrev pub IsSlotInRange : Slot → Type 0
IsSlotInRange slot = slot.port < 2 ^ 16

-- No reservation, or one below 2^32.
abbrev pub IsReservedInRange : Option ℕ → Type 0
IsReservedInRange None = Unit {0}
IsReservedInRange (Some n) = n < 2 ^ 32

-- The numbers of a function and of its environments are in range.
abbrev pub IsFunctionInRange : Function → Type 0
IsFunctionInRange f = (f.timeout_s < 2 ^ 32) × IsReservedInRange f.reserved × All IsSlotInRange f.slots

-- The numbers of a configuration and of its functions are in range.
abbrev pub IsConfigInRange : Config → Type 0
IsConfigInRange config =
    (config.account_limit < 2 ^ 32) × (config.least_remainder < 2 ^ 32) × (config.invoke_port < 2 ^ 16)
    × All IsFunctionInRange config.functions
