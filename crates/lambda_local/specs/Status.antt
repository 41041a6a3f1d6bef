-- The exit status of a service that did not come to a settled end.
use Rattle.std.specs.Prelude.{ℕ}
use Rattle.lambda_local.specs.declared.serve_fault.ServeFault.{ServeFault}
use Rattle.lambda_local.specs.declared.serve_fault.ServeFault.TheVariants.{Config, Wire, PortInBoth, Settlement}

-- The exit status: 2 if the configuration or a variable is at fault, 3 if the account does not settle, 4 if the machine
-- is at fault.
abbrev pub status_of : ServeFault → ℕ
status_of (Config fault) = 2
status_of (Wire fault) = 2
status_of PortInBoth = 2
status_of (Settlement fault) = 3
status_of _ = 4
