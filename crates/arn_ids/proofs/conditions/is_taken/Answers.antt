use Rattle.std.proofs.Common.{nat_eq, sym, ◌∙◌}
use Rattle.arn_ids.specs.Faults.{port_of}
use Rattle.arn_ids.proofs.Repeats.{list_any-map, any_port, or_first, or_second}
use Rattle.arn_ids.proofs.conditions.is_taken.Goals as goal

pub returns-then-has_slot_on : goal.returns-then-has_slot_on
returns-then-has_slot_on c =
    or_first _ _ _ (c.has_slot_on.ensures ∙ sym (list_any-map (nat_eq c.args.port) port_of c.args.slots.now)) c.if-has_slot_on.true

pub returns-else-has_slot_on : goal.returns-else-has_slot_on
returns-else-has_slot_on c =
    or_second _ _ _ (list_any-map (nat_eq c.args.port) port_of c.args.slots.now ∙ sym c.has_slot_on.ensures ∙ c.if-has_slot_on.false)
    (c.has_environment_on.ensures ∙ sym (any_port (nat_eq c.args.port) c.args.later.now))
