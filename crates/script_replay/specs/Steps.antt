-- How a replay proceeds, from piece to piece and from line to line.
use Rattle.std.specs.Prelude.{◌≡◌, ℕ, ◌+◌, ◌≤◌, List, [], ◌∷◌, ◌++◌, length, Option, Result, Ok}
use Rattle.std.specs.Io.{IsEmptyOrEndsWith}
use Rattle.std.specs.Str.Lines.{lines}
use Rattle.account_book.specs.Run.{ScriptFault, Progress, AtStart}
use Rattle.script_replay.specs.Replays.{IsOpen, Played, StoppedAt}
use Rattle.script_replay.specs.declared.fault.ReplayFault.{ReplayFault}

-- The bytes are this line, its line feed and the rest.
pub record EndsLine (bytes line rest : List ℕ) : Type 0 where
  pub free : IsOpen line
  pub split : bytes ≡ line ++ 10 ∷ rest

-- A line was taken, and what it writes was added to a text.
pub record Took {A : Type 0} (taken : Result (A × List ℕ) ScriptFault) (next : A) (old new : List ℕ) : Type 0 where
  pub text : List ℕ
  pub gave : taken ≡ Ok (next, text)
  pub grown : new ≡ old ++ text

-- The state of a replay between two bytes: its progress, how many lines were taken, and the part of the next line that
-- was read.
pub record Position : Type 0 where
  pub progress : Progress
  pub line : ℕ
  pub pending : List ℕ

-- The state of a replay before its first byte.
abbrev pub first_position : Position
first_position = record { progress = AtStart; line = 0; pending = [] }

-- Bytes that are empty or end with a line feed, and the lines that they contain.
pub record AreWhole (whole : List ℕ) (taken : List (List ℕ)) : Type 0 where
  pub ended : IsEmptyOrEndsWith whole 10
  pub cut : (more : List ℕ) → lines (whole ++ more) ≡ taken ++ lines more

-- All of a piece but `rest` was taken, without a fault, and more may follow.
pub record Going (first now : Position) (piece rest : List ℕ) (old new : Option (List ℕ)) : Type 0 where
  pub whole : List ℕ
  pub taken : List (List ℕ)
  pub split : first.pending ++ piece ≡ whole ++ (now.pending ++ rest)
  pub cut : AreWhole whole taken
  pub done : Played (first.line + 1) first.progress now.progress taken old new
  pub counted : now.line ≡ first.line + length taken
  pub few : length taken + length rest ≤ length piece
  pub free : IsOpen now.pending

-- What holds at a fault within a piece, whatever follows the piece.
abbrev pub StoppedIn : Position → List ℕ → Option (List ℕ) → Option (List ℕ) → ReplayFault → Type 0
StoppedIn first piece old new e = (more : List ℕ)
    → StoppedAt (first.line + 1) first.progress (lines (first.pending ++ (piece ++ more))) old new e

-- The last line, if it has no line feed: none if the bytes are empty.
abbrev pub last_lines : List ℕ → List (List ℕ)
last_lines [] = []
last_lines (b ∷ bs) = (b ∷ bs) ∷ []
