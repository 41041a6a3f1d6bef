-- What is returned if two tallies are not joined.
use Rattle.std.specs.Prelude.{◌≡◌}
use Rattle.usage_ledger.specs.Tallies.{Held, Tallied}
use Rattle.usage_ledger.specs.declared.join_fault.JoinFault.{JoinFault}
use Rattle.usage_ledger.specs.declared.join_fault.JoinFault.TheVariants.{OutOfMemory}

-- Both tallies are returned with what they held.
abbrev pub HandsBack : Held → Held → JoinFault Tallied → Type 0
HandsBack one other (OutOfMemory back_one back_other) = (back_one.held ≡ one) × (back_other.held ≡ other)
