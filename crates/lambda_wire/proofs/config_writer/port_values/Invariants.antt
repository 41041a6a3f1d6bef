use Rattle.std.proofs.Common.{◌≡◌, take, map}
use Rattle.std.specs.Prelude.{All}
use Rattle.serde_json.specs.View.{view}
use Rattle.lambda_wire.specs.Ranges.{IsSlotInRange}
use Rattle.lambda_wire.specs.ConfigurationText.{slot_data}
use Rattle.lambda_wire.proofs.config_writer.port_values.Given as goal

abbrev pub invariant-loop-slot : goal.invariant-loop-slot
invariant-loop-slot l = record {
  written : map view l.values.items ≡ map slot_data (take l.slot-index l.slots);
  in_range : All IsSlotInRange (take l.slot-index l.slots);
}
