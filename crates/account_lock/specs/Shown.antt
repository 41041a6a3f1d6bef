-- What an account shows under its lock: what holds in a history that calls led to.
use Rattle.std.specs.Prelude.{◌≡◌, ◌+◌, ◌<◌, ◌≤◌, ℕ, false, List, Option, Some, None, length, reverse}
use Rattle.std.specs.Prelude.{slice_index_or}
use Rattle.arn_ids.specs.declared.config.Config.{Config}
use Rattle.call_types.specs.declared.call.Call.{Call}
use Rattle.call_types.specs.declared.call.Entry.{Entry}
use Rattle.call_model.specs.Counts.{full}
use Rattle.call_model.specs.History.{call_of}
use Rattle.call_model.specs.Next.{next}
use Rattle.script.specs.AnswerText.{entry_text}
use Rattle.account_book.specs.Book.{Kept}
use Rattle.account_book.specs.Reached.{IsReached}
use Rattle.shared_history.specs.Sharing.{Extends}

-- A book with this configuration, salt, maximum number of entries and history.
abbrev pub book_of : Config → ℕ → ℕ → List Entry → Kept
book_of config salt most h = record { config = config; salt = salt; max_entries = most; history = h }

-- What a thread sees under the lock: a history that calls led to, each of which a book of at most `most` entries
-- takes, and that extends the history that the thread saw before.
pub record Sees (config : Config) (most : ℕ) (before h : List Entry) : Type 0 where
  pub later : Extends before h
  pub reached : IsReached config most h

-- A call of a caller that had seen the history `had` was taken at a moment. The call found a history that extends
-- `had` and has room for the call, and made the next one, in which it is the newest entry, at its ticket.
pub record IsTaken (config : Config) (most : ℕ) (had : List Entry) (now : ℕ) (call : Call) (ticket : ℕ)
    (h : List Entry) : Type 0 where
  pub before : List Entry
  pub sees : Sees config most had before
  pub room : full config most before call ≡ false
  pub goes_on : h ≡ next config before now call
  pub newest : ticket + 1 ≡ length h
  pub stands : call_of h ticket ≡ call

-- The text is that of the history's entry with a ticket; there is none if the history ends before the ticket.
abbrev pub IsTextOf : Config → ℕ → ℕ → Option (List ℕ) → List Entry → Type 0
IsTextOf config salt ticket None h = length h ≤ ticket
IsTextOf config salt ticket (Some text) h =
    (ticket < length h)
    × ((d : Entry) → text ≡ entry_text config salt h ticket (slice_index_or (reverse h) ticket d))
