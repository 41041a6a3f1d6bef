-- What a replay has written when it ends.
use Rattle.std.specs.Prelude.{◌≡◌, ℕ, ◌+◌, ◌==◌, Bool, false, List, [], ◌∷◌, ◌++◌, Option, Some, None, Result, Ok, Err, All}
use Rattle.std.specs.Io.{IsEmptyOrEndsWith}
use Rattle.std.specs.Io.KnownBytes.{Appends, Consumes}
use Rattle.std.specs.Str.Lines.{lines}
use Rattle.account_book.specs.Book.{Kept}
use Rattle.account_book.specs.Run.{ScriptFault, InConfiguration, InText, InLine, Progress, AtStart, Taking}
use Rattle.account_book.specs.Run.{line_taken, replay_from}
use Rattle.script_replay.specs.declared.fault.ReplayFault.{ReplayFault}
use Rattle.script_replay.specs.declared.fault.ReplayFault.TheVariants as faults

-- The bytes contain no line feed.
abbrev pub IsOpen : List ℕ → Type 0
IsOpen bytes = All (λ b. (b == 10) ≡ false) bytes

-- The same outcome with a text written before what it writes.
abbrev pub onto : List ℕ → Result (Progress × List ℕ) ScriptFault → Result (Progress × List ℕ) ScriptFault
onto text (Err fault) = Err fault
onto text (Ok (next, more)) = Ok (next, text ++ more)

-- The outcome of a line, and then of the rest; a fault ends it.
abbrev pub then_taken : Result (Progress × List ℕ) ScriptFault
    → (Progress → Result (Progress × List ℕ) ScriptFault) → Result (Progress × List ℕ) ScriptFault
then_taken (Err fault) rest = Err fault
then_taken (Ok (next, text)) rest = onto text (rest next)

-- The progress of a replay after lines that others may follow, and what is written; or the first fault of these lines.
-- `number` is that of the first line.
abbrev pub lines_taken : ℕ → Progress → List (List ℕ) → Result (Progress × List ℕ) ScriptFault
lines_taken number progress [] = Ok (progress, [])
lines_taken number progress (line ∷ lines) =
    then_taken (line_taken number progress line) (λ next. lines_taken (number + 1) next lines)

-- Lines were taken, from the progress `first` to the progress `next`, and none has a fault. What they write was
-- written, and nothing else.
pub record Played (number : ℕ) (first next : Progress) (lines : List (List ℕ))
    (old new : Option (List ℕ)) : Type 0 where
  pub text : List ℕ
  pub took : lines_taken number first lines ≡ Ok (next, text)
  pub wrote : Appends old new text

-- The reader gave whole lines and a part of the next line, without a line feed, before it failed; `left` is what it
-- still has. All of the whole lines were answered, and nothing else was written.
pub record BrokenOff (input : List ℕ) (left : Option (List ℕ)) (old new : Option (List ℕ)) : Type 0 where
  pub whole : List ℕ
  pub pending : List ℕ
  pub read : Consumes (Some input) left (whole ++ pending)
  pub ended : IsEmptyOrEndsWith whole 10
  pub free : IsOpen pending
  pub next : Progress
  pub played : Played 1 AtStart next (lines whole) old new

-- The replay of the lines has this fault, or none. What it writes was written, and nothing else.
pub record Ended (number : ℕ) (progress : Progress) (lines : List (List ℕ)) (fault : Option ScriptFault)
    (old new : Option (List ℕ)) : Type 0 where
  pub ends : (replay_from number progress lines).fault ≡ fault
  pub wrote : Appends old new (replay_from number progress lines).text

-- What the replay of some first lines writes was written, and nothing else.
pub record Broken (number : ℕ) (progress : Progress) (lines : List (List ℕ)) (old new : Option (List ℕ)) : Type 0 where
  pub first : List (List ℕ)
  pub rest : List (List ℕ)
  pub split : lines ≡ first ++ rest
  pub wrote : Appends old new (replay_from number progress first).text

-- A prefix of what the replay of the lines writes was written, and nothing else.
pub record Cut (number : ℕ) (progress : Progress) (lines : List (List ℕ)) (old new : Option (List ℕ)) : Type 0 where
  pub front : List ℕ
  pub lost : List ℕ
  pub split : (replay_from number progress lines).text ≡ front ++ lost
  pub wrote : Appends old new front

-- What holds at a fault in the replay of these lines. The reader's failure is not among them, since these lines were
-- read.
abbrev pub StoppedAt : ℕ → Progress → List (List ℕ) → Option (List ℕ) → Option (List ℕ) → ReplayFault → Type 0
StoppedAt number progress lines old new (faults.Config fault) =
    Ended number progress lines (Some (InConfiguration fault)) old new
StoppedAt number progress lines old new (faults.Wire fault) = Ended number progress lines (Some (InText fault)) old new
StoppedAt number progress lines old new (faults.Script line) = Ended number progress lines (Some (InLine line)) old new
StoppedAt number progress lines old new faults.Read = ⊥
StoppedAt number progress lines old new faults.Write = Cut number progress lines old new
StoppedAt number progress lines old new faults.OutOfMemory = Broken number progress lines old new

-- The whole script was replayed: its replay has no fault, and all that it writes was written.
abbrev pub Replays : List ℕ → Option (List ℕ) → Option (List ℕ) → Type 0
Replays input old new = Ended 1 AtStart (lines input) None old new

-- The script leads to this book: its replay has no fault, and ends with it.
pub record LeadsTo (input : List ℕ) (book : Kept) : Type 0 where
  pub reserves : Bool
  pub text : List ℕ
  pub took : lines_taken 1 AtStart (lines input) ≡ Ok (Taking reserves book, text)

-- A script was replayed up to a fault; `left` is what the reader still has.
abbrev pub Stops : List ℕ → Option (List ℕ) → Option (List ℕ) → Option (List ℕ) → ReplayFault → Type 0
Stops input left old new faults.Read = BrokenOff input left old new
Stops input left old new fault = StoppedAt 1 AtStart (lines input) old new fault
