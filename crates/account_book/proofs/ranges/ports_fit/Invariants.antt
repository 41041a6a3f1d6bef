use Rattle.std.proofs.Common.{take}
use Rattle.std.specs.Prelude.{All}
use Rattle.lambda_wire.specs.Ranges.{IsSlotInRange}
use Rattle.account_book.proofs.ranges.ports_fit.Given as goal

abbrev pub invariant-loop-slot : goal.invariant-loop-slot
invariant-loop-slot l = All IsSlotInRange (take l.slot-index l.slots)
