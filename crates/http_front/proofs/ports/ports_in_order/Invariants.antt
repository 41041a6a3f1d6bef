use Rattle.std.specs.Prelude.{◌≡◌, take, flat_map}
use Rattle.http_front.specs.Ports.{ports_of}
use Rattle.http_front.proofs.ports.ports_in_order.Given as goal

abbrev pub invariant-loop-function : goal.invariant-loop-function
invariant-loop-function l = l.ports.items ≡ flat_map (λ function. ports_of function.slots) (take l.function-index l.function-items)
