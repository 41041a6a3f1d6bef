-- What the replay of a script does: what it writes, and the fault that ends it, if any.
use Rattle.std.specs.Prelude.{ℕ, ◌+◌, ◌^◌, ◌==◌, Bool, true, false, nat_lt, if◌then◌else◌, List, [], ◌∷◌, ◌++◌, length}
use Rattle.std.specs.Prelude.{reverse, bytes_eq, codes, Option, Some, None, Result, Ok, Err}
use Rattle.std.specs.Str.Lines.{lines}
use Rattle.arn_ids.specs.Environments.{owners}
use Rattle.arn_ids.specs.Faults.{first_fault, is_between}
use Rattle.arn_ids.specs.declared.faults.ConfigFault.{ConfigFault}
use Rattle.arn_ids.specs.declared.faults.ConfigFault.TheVariants.{EntriesOutOfRange}
use Rattle.lambda_wire.specs.Configuration.{read_setup}
use Rattle.lambda_wire.specs.declared.setup.Setup.{Setup}
use Rattle.lambda_wire.specs.declared.fault.WireFault.{WireFault}
use Rattle.lambda_wire.specs.declared.fault.WireFault.TheVariants.{NotJson}
use Rattle.call_types.specs.declared.call.Call.{Call}
use Rattle.call_types.specs.declared.call.Entry.{Entry}
use Rattle.call_model.specs.Counts.{full}
use Rattle.call_model.specs.Next.{next, added}
use Rattle.script.specs.Lines.{call_in}
use Rattle.script.specs.AnswerText.{answer_lines}
use Rattle.account_book.specs.Book.{Kept}

-- The most bytes that a line may have, without its ending.
abbrev pub line_limit : ℕ
line_limit = 20000000

-- Why a replay ends before its input does: the configuration has a fault, the text of the configuration's line cannot
-- be read, or the line with this number is not a call or is too long.
pub data ScriptFault : Type 0 where
  InConfiguration : ConfigFault → ScriptFault
  InText : WireFault → ScriptFault
  InLine : ℕ → ScriptFault

-- How far a replay has come: before the first line, after the line `form 2`, or with a book that takes calls; the Bool
-- says whether lines may be `reserve`.
pub data Progress : Type 0 where
  AtStart : Progress
  AfterForm : Progress
  Taking : Bool → Kept → Progress

-- Whether a line is the first line of a script of form 2.
abbrev pub is_form_2 : List ℕ → Bool
is_form_2 line = bytes_eq line (codes "form 2")

-- Whether a line is skipped: it is empty, or a comment, which begins with `#`.
abbrev pub is_skipped : List ℕ → Bool
is_skipped [] = true
is_skipped (b ∷ bs) = b == 35

-- The book of a setup, before its first call.
abbrev pub new_book : Setup → Kept
new_book setup = record { config = setup.config; salt = setup.salt; max_entries = setup.max_entries; history = [] }

-- The book of a setup, given the fault of its configuration, if any: there must be none, and the maximum number of
-- entries must be above the number of environments and at most 2^32.
abbrev pub book_where : Option ConfigFault → Setup → Result Kept ScriptFault
book_where (Some fault) setup = Err (InConfiguration fault)
book_where None setup =
    if is_between (length (owners setup.config) + 1) (2 ^ 32) setup.max_entries then Ok (new_book setup)
    else Err (InConfiguration EntriesOutOfRange)

-- The book of a setup that was read, or the fault.
abbrev pub book_of : Result Setup WireFault → Result Kept ScriptFault
book_of (Err fault) = Err (InText fault)
book_of (Ok setup) = book_where (first_fault setup.config) setup

-- The book that the configuration's line opens, or the fault.
unfoldable pub opened : List ℕ → Result Kept ScriptFault
opened line = book_of (read_setup line)

-- The answer lines of entries, given in the order in which they were taken; `number` is that of the first.
abbrev pub lines_from : ℕ → List Entry → ℕ → List Entry → List ℕ
lines_from salt h number [] = []
lines_from salt h number (entry ∷ entries) = answer_lines salt h number entry ++ lines_from salt h (number + 1) entries

-- The answer lines of the entries that were added to a history, the oldest first; `new` has the newest first.
abbrev pub added_lines : ℕ → List Entry → List Entry → List ℕ
added_lines salt h new = lines_from salt (new ++ h) (length h) (reverse new)

-- The book after a call, and the lines that are written. A full journal takes no call, and the line says so.
unfoldable pub call_answered : Kept → ℕ → Call → Kept × List ℕ
call_answered book now call =
    if full book.config book.max_entries book.history call then (book, codes "refused JournalFull\n") else (
      record book { history = next book.config book.history now call },
      added_lines book.salt book.history (added book.config book.history now call),
    )

-- The same for the call that a line contains; if it contains none, the line is at fault.
abbrev pub answered_if : ℕ → Kept → Option (ℕ × Call) → Result (Kept × List ℕ) ScriptFault
answered_if number book None = Err (InLine number)
answered_if number book (Some (now, call)) = Ok (call_answered book now call)

-- The book after a line, and the lines that are written; `reserves` says whether the line may be `reserve`.
unfoldable pub line_answered : Bool → ℕ → Kept → List ℕ → Result (Kept × List ℕ) ScriptFault
line_answered reserves number book line =
    if nat_lt line_limit (length line) then Err (InLine number) else
    if is_skipped line then Ok (book, []) else answered_if number book (call_in reserves book.config line)

-- The progress of a replay once its book is opened; nothing is written.
abbrev pub started : Bool → Result Kept ScriptFault → Result (Progress × List ℕ) ScriptFault
started reserves (Err fault) = Err fault
started reserves (Ok book) = Ok (Taking reserves book, [])

-- The progress of a replay whose book has taken a line, and the lines that are written.
abbrev pub going_on : Bool → Result (Kept × List ℕ) ScriptFault → Result (Progress × List ℕ) ScriptFault
going_on reserves (Err fault) = Err fault
going_on reserves (Ok (book, text)) = Ok (Taking reserves book, text)

-- The progress of a replay after the line with this number, and the lines that are written. The first line may be
-- `form 2`; the line after it, or else the first, is the configuration, which opens the book; the book takes every
-- other line.
abbrev pub line_taken : ℕ → Progress → List ℕ → Result (Progress × List ℕ) ScriptFault
line_taken number AtStart line = if is_form_2 line then Ok (AfterForm, []) else started false (opened line)
line_taken number AfterForm line = started true (opened line)
line_taken number (Taking reserves book) line = going_on reserves (line_answered reserves number book line)

-- The fault of an input that ends here, if any: an input that ends before the configuration's line is not JSON.
abbrev pub fault_at_end : Progress → Option ScriptFault
fault_at_end AtStart = Some (InText NotJson)
fault_at_end AfterForm = Some (InText NotJson)
fault_at_end (Taking reserves book) = None

-- What a replay writes, and the fault that ends it before its input does, if any.
pub record Replayed : Type 0 where
  pub text : List ℕ
  pub fault : Option ScriptFault

-- The same replay with a text written before it.
abbrev pub before : List ℕ → Replayed → Replayed
before text rest = record { text = text ++ rest.text; fault = rest.fault }

-- The outcome of a line, and then of the rest; a fault ends the replay.
abbrev pub and_then : Result (Progress × List ℕ) ScriptFault → (Progress → Replayed) → Replayed
and_then (Err fault) rest = record { text = []; fault = Some fault }
and_then (Ok (next, text)) rest = before text (rest next)

-- The replay of lines from this progress on; `number` is that of the first.
abbrev pub replay_from : ℕ → Progress → List (List ℕ) → Replayed
replay_from number progress [] = record { text = []; fault = fault_at_end progress }
replay_from number progress (line ∷ lines) =
    and_then (line_taken number progress line) (λ next. replay_from (number + 1) next lines)

-- The replay of a script. A line feed ends each line, and one carriage return before it belongs to the ending; the
-- last line may lack its ending.
abbrev pub run : List ℕ → Replayed
run input = replay_from 1 AtStart (lines input)

-- Whether the first line is `form 2`.
abbrev pub begins_form_2 : List (List ℕ) → Bool
begins_form_2 [] = false
begins_form_2 (line ∷ lines) = is_form_2 line

-- Whether a script is of form 2.
abbrev pub is_of_form_2 : List ℕ → Bool
is_of_form_2 input = begins_form_2 (lines input)
