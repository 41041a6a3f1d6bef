use Rattle.std.proofs.Common.{◌≡◌, ◌∷◌}
use Rattle.std.specs.Arc.{arc_value}
use Rattle.service_port.specs.declared.port.Port.TheVariants.{Account}
use Rattle.http_front.specs.ServedPorts.{served, all_served, served_environments}
use Rattle.http_front.proofs.ports.Ports.listen_for_environments.Given as goal

abbrev pub invariant-loop-place : goal.invariant-loop-place
invariant-loop-place g l = all_served l.self.listeners.items
    ≡ served (arc_value l.config) l.salt Account ∷ served_environments (arc_value l.config) l.salt l.place
