use Rattle.std.proofs.Common.{◌≡◌, ◌++◌, take}
use Rattle.std.specs.Arc.{arc_value}
use Rattle.http_front.specs.ServedPorts.{all_served, served_handled}
use Rattle.http_front.proofs.ports.Ports.listen_for_handlers.Given as goal

abbrev pub invariant-loop-number : goal.invariant-loop-number
invariant-loop-number g l = all_served l.self.listeners.items
    ≡ all_served l.initial.self.listeners.items
    ++ served_handled (arc_value l.config) l.salt (take l.number-index l.number-items)
