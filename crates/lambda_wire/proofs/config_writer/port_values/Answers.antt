use Rattle.std.proofs.Common.{ap, map, ◌∙◌, take_all, arith}
use Rattle.std.proofs.lemmas.Grind.{common_steps}
use Rattle.std.proofs.lemmas.List.Elements.{All-more}
use Rattle.lambda_wire.specs.Ranges.{IsSlotInRange}
use Rattle.lambda_wire.specs.ConfigurationText.{slot_data}
use Rattle.lambda_wire.proofs.config_writer.port_values.Goals as goal

pub loop-slot-preserved : goal.loop-slot-preserved
loop-slot-preserved c = record {
  written = grind (arith, common_steps);
  in_range = All-more IsSlotInRange c.args.slots.now c.loop-slot.slot-index (record { port = 0 }) (omega arith) c.loop-slot.invariant.in_range (omega arith);
}

pub returns-clause-values : goal.returns-clause-values
returns-clause-values c = c.loop-slot.invariant.written ∙ ap (map slot_data) (take_all c.loop-slot.slot-index c.args.slots.now c.loop-slot-test.false)

pub returns-clause-in_range : goal.returns-clause-in_range
returns-clause-in_range c = rw (take_all c.loop-slot.slot-index c.args.slots.now c.loop-slot-test.false) at c.loop-slot.invariant.in_range
