use Rattle.std.specs.Prelude.{◌≡◌, ◌++◌, take}
use Rattle.http_front.specs.Ports.{ports_of}
use Rattle.http_front.proofs.ports.push_ports.Given as goal

abbrev pub invariant-loop-slot : goal.invariant-loop-slot
invariant-loop-slot l = l.ports.items ≡ l.initial.ports.items ++ ports_of (take l.slot-index l.slots)
