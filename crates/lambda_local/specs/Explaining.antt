-- What a configuration's text describes, and the place of the fault for which it is refused.
use Rattle.std.specs.Prelude.{◌≡◌, ◌+◌, ◌≤◌, ◌^◌, ℕ, List, length, Option, Some, None, Result, Ok, Err}
use Rattle.arn_ids.specs.Environments.{owners}
use Rattle.arn_ids.specs.Faults.{first_fault}
use Rattle.arn_ids.specs.declared.faults.ConfigFault.{ConfigFault}
use Rattle.arn_ids.specs.declared.faults.ConfigFault.TheVariants.{EntriesOutOfRange}
use Rattle.arn_ids.specs.Places.{IsPlaceOf}
use Rattle.arn_ids.specs.declared.place.FaultPlace.{FaultPlace}
use Rattle.lambda_wire.specs.Configuration.{read_setup}
use Rattle.lambda_wire.specs.declared.setup.Setup.{Setup}
use Rattle.lambda_local.specs.declared.serve_fault.ServeFault.{ServeFault}
use Rattle.lambda_local.specs.declared.serve_fault.ServeFault.TheVariants.{Wire, Read, OutOfMemory}

-- The fault is one of a reader that fails.
abbrev pub IsOfReading : ServeFault → Type 0
IsOfReading Read = Unit {0}
IsOfReading OutOfMemory = Unit {0}
IsOfReading _ = ⊥

-- The fault is one of this text, or of a reader that fails.
abbrev pub IsFaultOf : List ℕ → ServeFault → Type 0
IsFaultOf text (Wire fault) = read_setup text ≡ Err fault
IsFaultOf text fault = IsOfReading fault

-- The setup is that which the text describes.
abbrev pub IsSetupOf : List ℕ → Result Setup ServeFault → Type 0
IsSetupOf text (Ok setup) = read_setup text ≡ Ok setup
IsSetupOf text (Err fault) = IsFaultOf text fault

-- A history can have that many entries: at least one more than there are environments, at most 2^32.
abbrev pub IsRoomy : Setup → Type 0
IsRoomy setup = (length (owners setup.config) + 1 ≤ setup.max_entries) × (setup.max_entries ≤ 2 ^ 32)

-- The place of `maxEntries`.
abbrev pub entries_place : FaultPlace
entries_place = record { fault = EntriesOutOfRange; functions = 0 }

-- The place, if there is one, is that of `maxEntries` out of its range.
abbrev pub IsPlaceOfEntries : Setup → Option FaultPlace → Type 0
IsPlaceOfEntries setup None = IsRoomy setup
IsPlaceOfEntries setup (Some place) = (IsRoomy setup → ⊥) × (place ≡ entries_place)

-- The place, if there is one, is that of the fault for which the setup is refused, given the first fault of its
-- configuration: the place of that fault; if there is none, of `maxEntries` out of its range.
abbrev pub IsPlaceAt : Option ConfigFault → Setup → Option FaultPlace → Type 0
IsPlaceAt None setup place = IsPlaceOfEntries setup place
IsPlaceAt (Some fault) setup None = ⊥
IsPlaceAt (Some fault) setup (Some place) = IsPlaceOf setup.config place

-- The place, if there is one, is that of the fault for which the setup is refused; without a place it is not refused.
abbrev pub IsPlaceIn : Setup → Option FaultPlace → Type 0
IsPlaceIn setup place = IsPlaceAt (first_fault setup.config) setup place

-- The place, if there is one, is that of the fault for which the configuration with this text is refused.
abbrev pub Explains : List ℕ → Result (Option FaultPlace) ServeFault → Type 0
Explains text (Ok place) = (setup : Setup) × (read_setup text ≡ Ok setup) × IsPlaceIn setup place
Explains text (Err fault) = IsFaultOf text fault
