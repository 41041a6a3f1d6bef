-- The trace of a script, and what was written of it when its tracing ends.
use Rattle.std.specs.Prelude.{◌≡◌, ℕ, Bool, List, [], ◌++◌, Option, Some, None, Result, Ok, Err}
use Rattle.std.specs.Io.KnownBytes.{Appends}
use Rattle.std.specs.Str.Lines.{lines}
use Rattle.account_book.specs.Book.{Kept}
use Rattle.account_book.specs.Run.{ScriptFault, InConfiguration, InText, InLine}
use Rattle.account_book.specs.Run.{Progress, AtStart, Taking, Replayed, fault_at_end}
use Rattle.script_replay.specs.Replays.{BrokenOff, lines_taken}
use Rattle.script_replay.specs.declared.fault.ReplayFault.{ReplayFault}
use Rattle.script_replay.specs.declared.fault.ReplayFault.TheVariants as faults
use Rattle.trace.specs.Object.{trace}

-- The trace of a book's history.
abbrev pub book_trace : Bool → Kept → List ℕ
book_trace bodies book = trace bodies book.config book.salt book.history

-- The trace of the history that a replay has come to; there is none before its book is opened.
abbrev pub progress_trace : Bool → Progress → List ℕ
progress_trace bodies (Taking reserves book) = book_trace bodies book
progress_trace bodies _ = []

-- The trace of a script, given what its replay comes to (the text is what a replay writes), and the fault, if any.
abbrev pub trace_of : Bool → Result (Progress × List ℕ) ScriptFault → Replayed
trace_of bodies (Err fault) = record { text = []; fault = Some fault }
trace_of bodies (Ok (progress, text)) = record { text = progress_trace bodies progress; fault = fault_at_end progress }

-- The trace of a script: that of the history that all its lines lead to. A script with a fault has none; its fault is
-- that of its replay (`run`).
abbrev pub trace_run : Bool → List ℕ → Replayed
trace_run bodies input = trace_of bodies (lines_taken 1 AtStart (lines input))

-- The trace of the script has this fault, or none. The whole text was written, and nothing else.
pub record Traced (bodies : Bool) (input : List ℕ) (fault : Option ScriptFault) (old new : Option (List ℕ)) : Type 0 where
  pub ends : (trace_run bodies input).fault ≡ fault
  pub wrote : Appends old new (trace_run bodies input).text

-- A prefix of a text was written, and nothing else.
pub record CutShort (text : List ℕ) (old new : Option (List ℕ)) : Type 0 where
  pub front : List ℕ
  pub lost : List ℕ
  pub split : text ≡ front ++ lost
  pub wrote : Appends old new front

-- What holds at a fault; `left` is what the reader still has. If the reader failed, nothing was written. If the writer
-- failed or memory ran out, a prefix was.
abbrev pub Stops : Bool → List ℕ → Option (List ℕ) → Option (List ℕ) → Option (List ℕ) → ReplayFault → Type 0
Stops bodies input left old new (faults.Config fault) = Traced bodies input (Some (InConfiguration fault)) old new
Stops bodies input left old new (faults.Wire fault) = Traced bodies input (Some (InText fault)) old new
Stops bodies input left old new (faults.Script line) = Traced bodies input (Some (InLine line)) old new
Stops bodies input left old new faults.Read = BrokenOff input left None None × Appends old new []
Stops bodies input left old new faults.Write = CutShort (trace_run bodies input).text old new
Stops bodies input left old new faults.OutOfMemory = CutShort (trace_run bodies input).text old new
