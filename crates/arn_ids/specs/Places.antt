-- The place of a configuration's first fault.
use Rattle.std.specs.Prelude.{◌≡◌, ◌≢◌, ℕ, zero, suc, ◌<◌, ◌≤◌, List, [], ◌++◌, take, length, codes, decimal, Some}
use Rattle.arn_ids.specs.Faults.{first_fault}
use Rattle.arn_ids.specs.declared.config.Config.{Config}
use Rattle.arn_ids.specs.declared.faults.ConfigFault.{ConfigFault}
use Rattle.arn_ids.specs.declared.faults.ConfigFault.TheVariants.{BadAccount, BadRegion, BadAccountLimit}
use Rattle.arn_ids.specs.declared.faults.ConfigFault.TheVariants.{BadLeastRemainder, BadName}
use Rattle.arn_ids.specs.declared.faults.ConfigFault.TheVariants.{DuplicateName, BadHandler, BadTimeout, NoEnvironment}
use Rattle.arn_ids.specs.declared.faults.ConfigFault.TheVariants.{TooManyEnvironments, BadPort, DuplicatePort}
use Rattle.arn_ids.specs.declared.faults.ConfigFault.TheVariants.{TooManyExtensions, BadExtension, DuplicateExtension}
use Rattle.arn_ids.specs.declared.faults.ConfigFault.TheVariants.{ReservationAboveEnvironments, RemainderTooSmall}
use Rattle.arn_ids.specs.declared.faults.ConfigFault.TheVariants.{EntriesOutOfRange}
use Rattle.arn_ids.specs.declared.place.FaultPlace.{FaultPlace}

-- The configuration with its first `n` functions only.
abbrev pub with_first : ℕ → Config → Config
with_first n config = record config { functions = take n config.functions }

-- A fault comes in with the first `n` functions: the account with these functions has it as its first fault, and with
-- fewer of them it does not.
pub record ComesIn (config : Config) (fault : ConfigFault) (n : ℕ) : Type 0 where
  pub within : n ≤ length config.functions
  pub there : first_fault (with_first n config) ≡ Some fault
  pub not_before : (m : ℕ) → m < n → first_fault (with_first m config) ≢ Some fault

-- The place is that of the configuration's first fault: the last of the functions with which the fault comes in, or
-- the account itself if the fault is there without any function.
pub record IsPlaceOf (config : Config) (place : FaultPlace) : Type 0 where
  pub first : first_fault config ≡ Some place.fault
  pub comes : ComesIn config place.fault place.functions

-- The member of a function that a fault is about, after a dot; empty if the fault is about the function itself.
abbrev pub member_of_function : ConfigFault → List ℕ
member_of_function BadName = codes ".name"
member_of_function DuplicateName = codes ".name"
member_of_function BadHandler = codes ".handler"
member_of_function BadTimeout = codes ".timeout"
member_of_function NoEnvironment = codes ".ports"
member_of_function TooManyEnvironments = codes ".ports"
member_of_function BadPort = codes ".ports"
member_of_function DuplicatePort = codes ".ports"
member_of_function TooManyExtensions = codes ".extensions"
member_of_function BadExtension = codes ".extensions"
member_of_function DuplicateExtension = codes ".extensions"
member_of_function ReservationAboveEnvironments = codes ".reserved"
member_of_function RemainderTooSmall = codes ".reserved"
member_of_function _ = []

-- The member of the account that a fault is about.
abbrev pub member_of_account : ConfigFault → List ℕ
member_of_account BadAccount = codes "account"
member_of_account BadRegion = codes "region"
member_of_account BadAccountLimit = codes "accountLimit"
member_of_account BadLeastRemainder = codes "leastRemainder"
member_of_account BadPort = codes "invokePort"
member_of_account DuplicatePort = codes "invokePort"
member_of_account EntriesOutOfRange = codes "maxEntries"
member_of_account _ = codes "functions"

-- The path to a member that a fault is about, given the number of functions with which it comes in. Functions are
-- numbered from 0 in it.
abbrev pub path_with : ConfigFault → ℕ → List ℕ
path_with fault zero = member_of_account fault
path_with fault (suc i) = codes "functions[" ++ decimal i ++ codes "]" ++ member_of_function fault

-- The path to a place.
abbrev pub path : FaultPlace → List ℕ
path place = path_with place.fault place.functions
