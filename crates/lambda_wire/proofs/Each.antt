-- Reading items one after the other, as a loop does.
use Rattle.std.specs.Prelude.{List, ◌++◌, Result, Ok}
use Rattle.lambda_wire.specs.declared.fault.WireFault.{WireFault}
use Rattle.lambda_wire.specs.Reading.{◌>>=◌}

-- what was read before, and what is still read
abbrev pub with_front : {A : Type 0} → List A → Result (List A) WireFault → Result (List A) WireFault
with_front front read = read >>= λ xs. Ok (front ++ xs)
