-- The lines of the first entries of a book's history.
use Rattle.std.specs.Prelude.{◌≡◌, ℕ, ◌+◌, Bool, List, ◌++◌, Option}
use Rattle.std.specs.Io.KnownBytes.{Appends}
use Rattle.account_book.specs.Book.{Kept}
use Rattle.script_replay.specs.declared.fault.ReplayFault.{ReplayFault}
use Rattle.script_replay.specs.declared.fault.ReplayFault.TheVariants as faults
use Rattle.fleet.specs.Reaches.{before}
use Rattle.trace.specs.Object.{trace_from}
use Rattle.trace_replay.specs.Traces.{CutShort, book_trace}

-- The lines of the entries before the one with a ticket.
abbrev pub first_lines : Bool → Kept → ℕ → List ℕ
first_lines bodies book ticket =
    trace_from bodies book.config book.salt book.history (before book.history ticket)

-- The line of the entry with a ticket was added to a text.
pub record LineAdded (bodies : Bool) (book : Kept) (ticket : ℕ) (old new : List ℕ) : Type 0 where
  pub line : List ℕ
  pub grown : new ≡ old ++ line
  pub next : first_lines bodies book (ticket + 1) ≡ first_lines bodies book ticket ++ line

-- The lines of the entries before the one with a ticket: what was written of them, and what is pending.
pub record Underway (bodies : Bool) (book : Kept) (ticket : ℕ) (pending : List ℕ) (old new : Option (List ℕ)) : Type 0 where
  pub text : List ℕ
  pub whole : first_lines bodies book ticket ≡ text ++ pending
  pub wrote : Appends old new text

-- Pending text was written, all of it or none: what is pending now, and what was written.
pub record Flushed (pending left : List ℕ) (old new : Option (List ℕ)) : Type 0 where
  pub text : List ℕ
  pub whole : pending ≡ text ++ left
  pub wrote : Appends old new text

-- What holds at a fault while the trace of a book is written. The writer failed or memory ran out, and a prefix was
-- written.
abbrev pub Fails : Bool → Kept → Option (List ℕ) → Option (List ℕ) → ReplayFault → Type 0
Fails bodies book old new faults.Write = CutShort (book_trace bodies book) old new
Fails bodies book old new faults.OutOfMemory = CutShort (book_trace bodies book) old new
Fails bodies book old new _ = ⊥
