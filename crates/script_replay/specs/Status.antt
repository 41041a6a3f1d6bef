-- The exit status of the program.
use Rattle.std.specs.Prelude.{ℕ}
use Rattle.script_replay.specs.declared.fault.ReplayFault.{ReplayFault}
use Rattle.script_replay.specs.declared.fault.ReplayFault.TheVariants.{Config, Wire, Script, Read, Write, OutOfMemory}

-- The exit status of a program that ends with this fault: 2 if the script is at fault, 4 if the machine is.
abbrev pub status_of : ReplayFault → ℕ
status_of (Config fault) = 2
status_of (Wire fault) = 2
status_of (Script line) = 2
status_of Read = 4
status_of Write = 4
status_of OutOfMemory = 4
