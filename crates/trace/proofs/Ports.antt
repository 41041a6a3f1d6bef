-- The port of an environment, found function by function.
use Rattle.std.proofs.Common.{◌≡◌, ℕ, zero, suc, ◌+◌, ◌-◌, ◌<◌, ◌≤◌, List, [], ◌∷◌, ◌++◌, length, map, get_or, drop, refl, ap, ◌∙◌, arith, add-one, drop-cons}
use Rattle.std.proofs.lemmas.List.{length-map}
use Rattle.arn_ids.specs.Environments.{at}
use Rattle.arn_ids.specs.Faults.{environment_ports, port_of}
use Rattle.arn_ids.specs.declared.config.Function.{Function}
use Rattle.arn_ids.specs.declared.config.Slot.{Slot}
use Rattle.arn_ids.proofs.Counting.{at_back, at_front}

ports_step : (functions : List Function) (i : ℕ) (function : Function) → i < length functions → function ≡ get_or functions i function
    → environment_ports (drop i functions) ≡ map port_of function.slots ++ environment_ports (drop (i + 1) functions)
ports_step functions i function lt is = rw (add-one, drop-cons functions i function lt, ← is) refl

at_mapped : (slots : List Slot) (i : ℕ) (d : Slot) → i < length slots → at 0 (map port_of slots) i ≡ (get_or slots i d).port
at_mapped [] i d lt = absurd (omega arith)
at_mapped (slot ∷ slots) zero d lt = refl
at_mapped (slot ∷ slots) (suc i) d lt = at_mapped slots i d (omega arith)

-- it is among the next function's
pub port_here : (functions : List Function) (i place : ℕ) (function : Function) (d : Slot) → i < length functions → function ≡ get_or functions i function
    → place < length function.slots → at 0 (environment_ports (drop i functions)) place ≡ (get_or function.slots place d).port
port_here functions i place function d lt is within =
    let fits : place < length (map port_of function.slots) = rw (length-map function.slots port_of) within in
    rw (ports_step functions i function lt is)
    (at_front 0 (map port_of function.slots) (environment_ports (drop (i + 1) functions)) place fits ∙ at_mapped function.slots place d within)

-- it is behind them
pub port_later : (functions : List Function) (i place : ℕ) (function : Function) → i < length functions → function ≡ get_or functions i function
    → length function.slots ≤ place
    → at 0 (environment_ports (drop i functions)) place ≡ at 0 (environment_ports (drop (i + 1) functions)) (place - length function.slots)
port_later functions i place function lt is beyond =
    let past : length (map port_of function.slots) ≤ place = rw (length-map function.slots port_of) beyond in
    rw (ports_step functions i function lt is)
    (at_back 0 (map port_of function.slots) (environment_ports (drop (i + 1) functions)) place past
    ∙ ap (λ n. at 0 (environment_ports (drop (i + 1) functions)) (place - n)) (length-map function.slots port_of))
