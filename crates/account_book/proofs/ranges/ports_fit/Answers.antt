use Rattle.std.proofs.Common.{arith}
use Rattle.std.proofs.lemmas.List.Elements.{All-more}
use Rattle.lambda_wire.specs.Ranges.{IsSlotInRange}
use Rattle.account_book.proofs.ranges.ports_fit.Goals as goal

pub loop-slot-preserved : goal.loop-slot-preserved
loop-slot-preserved c =
    All-more IsSlotInRange c.args.slots.now c.loop-slot.slot-index (record { port = 0 }) (omega arith) c.loop-slot.invariant c.port_fits.ensures
