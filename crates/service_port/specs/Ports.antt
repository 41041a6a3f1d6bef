-- The ports of the service.
use Rattle.std.specs.Prelude.{ℕ, Option, Some, None}
use Rattle.service_port.specs.declared.port.Port.{Port}
use Rattle.service_port.specs.declared.port.Port.TheVariants.{Account, Environment, Handled}

-- The number of the environment whose port it is.
abbrev pub environment_of : Port → Option ℕ
environment_of Account = None
environment_of (Environment e) = Some e
environment_of (Handled number) = None
