-- The faults of a service, from the faults of its parts.
use Rattle.std.specs.declared.io.ErrorKind.{ErrorKind}
use Rattle.std.specs.declared.io.ErrorKind.TheVariants as errors
use Rattle.lambda_wire.specs.declared.fault.WireFault.{WireFault}
use Rattle.lambda_wire.specs.declared.fault.WireFault.TheVariants as wire
use Rattle.account_lock.specs.declared.settle.fault.SettleFault.{SettleFault}
use Rattle.account_lock.specs.declared.settle.fault.SettleFault.TheVariants as settling
use Rattle.http_front.specs.declared.host.fault.HostFault.{HostFault}
use Rattle.http_front.specs.declared.host.fault.HostFault.TheVariants as host
use Rattle.lambda_local.specs.declared.serve_fault.ServeFault.{ServeFault}
use Rattle.lambda_local.specs.declared.serve_fault.ServeFault.TheVariants.{Config, Wire, Settlement, Read, Network}
use Rattle.lambda_local.specs.declared.serve_fault.ServeFault.TheVariants.{TooFewDescriptors, TooFewThreads, OutOfMemory}

-- The fault for an error of this kind while a configuration is read.
abbrev pub of_input : ErrorKind → ServeFault
of_input errors.OutOfMemory = OutOfMemory
of_input _ = Read

-- The fault of a text that is no configuration.
abbrev pub of_wire : WireFault → ServeFault
of_wire wire.OutOfMemory = OutOfMemory
of_wire fault = Wire fault

-- The fault of a host that does not open or does not end. If a thread never ended, the account lacks its tally.
abbrev pub of_host : HostFault → ServeFault
of_host (host.Config fault) = Config fault
of_host host.Network = Network
of_host host.TooFewDescriptors = TooFewDescriptors
of_host host.TooFewThreads = TooFewThreads
of_host host.StillShared = Settlement settling.TallyMissing
of_host host.OutOfMemory = OutOfMemory

-- The fault of an account that does not settle.
abbrev pub of_settling : SettleFault → ServeFault
of_settling settling.OutOfMemory = OutOfMemory
of_settling fault = Settlement fault
