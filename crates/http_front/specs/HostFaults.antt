-- Why a host does not open.
use Rattle.std.specs.Prelude.{◌≡◌, Some, None}
use Rattle.arn_ids.specs.Faults.{first_fault}
use Rattle.arn_ids.specs.declared.config.Config.{Config as Configured}
use Rattle.arn_ids.specs.declared.faults.ConfigFault.TheVariants.{EntriesOutOfRange}
use Rattle.account_book.specs.declared.book.OpenFault.{OpenFault}
use Rattle.account_book.specs.declared.book.OpenFault.TheVariants as opening
use Rattle.http_front.specs.declared.host.fault.HostFault.{HostFault}
use Rattle.http_front.specs.declared.host.fault.HostFault.TheVariants.{Config, Network, TooFewDescriptors}
use Rattle.http_front.specs.declared.host.fault.HostFault.TheVariants.{TooFewThreads, StillShared, OutOfMemory}

-- The fault of a host whose history is not opened.
abbrev pub fault_of_opening : OpenFault → HostFault
fault_of_opening opening.EntriesOutOfRange = Config EntriesOutOfRange
fault_of_opening opening.OutOfMemory = OutOfMemory

-- A fault of a plan: the first one of its configuration, or that an allocation failed.
abbrev pub IsFaultOf : Configured → HostFault → Type 0
IsFaultOf config (Config fault) = first_fault config ≡ Some fault
IsFaultOf config Network = ⊥
IsFaultOf config TooFewDescriptors = ⊥
IsFaultOf config TooFewThreads = ⊥
IsFaultOf config StillShared = ⊥
IsFaultOf config OutOfMemory = first_fault config ≡ None

-- A fault of the machine: a port that cannot be listened on, too few descriptors or threads, or an allocation that failed.
abbrev pub IsOfMachine : HostFault → Type 0
IsOfMachine (Config fault) = ⊥
IsOfMachine Network = Unit {0}
IsOfMachine TooFewDescriptors = Unit {0}
IsOfMachine TooFewThreads = Unit {0}
IsOfMachine StillShared = ⊥
IsOfMachine OutOfMemory = Unit {0}
