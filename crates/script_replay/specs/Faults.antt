-- The faults of a script, as the replay reports them.
use Rattle.std.specs.Prelude.{◌≡◌, Result, Err}
use Rattle.account_book.specs.Run.{ScriptFault, InConfiguration, InText, InLine}
use Rattle.script_replay.specs.declared.fault.ReplayFault.{ReplayFault}
use Rattle.script_replay.specs.declared.fault.ReplayFault.TheVariants as faults

-- The lines have this fault. Lack of memory is not a fault of a script, so it is possible for any lines; a failure of
-- the reader or the writer is not the fault of lines, so it is possible for none.
abbrev pub HasFault : {A : Type 0} → Result A ScriptFault → ReplayFault → Type 0
HasFault taken (faults.Config fault) = taken ≡ Err (InConfiguration fault)
HasFault taken (faults.Wire fault) = taken ≡ Err (InText fault)
HasFault taken (faults.Script line) = taken ≡ Err (InLine line)
HasFault taken faults.Read = ⊥
HasFault taken faults.Write = ⊥
HasFault taken faults.OutOfMemory = Unit {0}
