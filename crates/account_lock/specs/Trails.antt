-- The trace of an account's history, as a trail of it is read, entry by entry.
use Rattle.std.specs.Prelude.{◌≡◌, ℕ, ◌+◌, ◌<◌, ◌≤◌, Bool, true, false, List, Option, Some, None, length, reverse}
use Rattle.std.specs.Prelude.{slice_index_or}
use Rattle.account_book.specs.declared.book.Life.{Life}
use Rattle.account_book.specs.declared.book.Life.TheVariants.{Open, Stopping, Off}
use Rattle.arn_ids.specs.declared.config.Config.{Config}
use Rattle.call_types.specs.declared.call.Entry.{Entry}
use Rattle.json.specs.Token.{Token}
use Rattle.fleet.specs.Reaches.{before}
use Rattle.trace.specs.Object.{object_text, object_tokens}

-- A trail: the history that it has seen, and the ticket of the entry that comes next. It has followed the entries before
-- that one.
pub record Trailed : Type 0 where
  pub seen : List Entry
  pub next : ℕ

-- A trail passed the entry that came next, in the history that it has then seen; or that history ends before the entry,
-- and the entry still comes next.
abbrev pub GoesOn : Bool → Trailed → Trailed → Type 0
GoesOn true old new = (old.next < length new.seen) × (new.next ≡ old.next + 1)
GoesOn false old new = (length new.seen ≤ old.next) × (new.next ≡ old.next)

-- The tokens are those of the object of the history's entry with a ticket; there are none if the history ends before the
-- ticket.
abbrev pub IsObjectOf : Config → ℕ → Bool → ℕ → Option (List Token) → List Entry → Type 0
IsObjectOf config salt bodies ticket None h = length h ≤ ticket
IsObjectOf config salt bodies ticket (Some tokens) h =
    (ticket < length h)
    × ((d : Entry)
    → tokens ≡ object_tokens bodies config salt h (before h ticket) (slice_index_or (reverse h) ticket d))

-- The line is that of the history's entry with a ticket; there is none if the history ends before the ticket.
abbrev pub IsLineOf : Config → ℕ → Bool → ℕ → Option (List ℕ) → List Entry → Type 0
IsLineOf config salt bodies ticket None h = length h ≤ ticket
IsLineOf config salt bodies ticket (Some line) h =
    (ticket < length h)
    × ((d : Entry)
    → line ≡ object_text bodies config salt h (before h ticket) (slice_index_or (reverse h) ticket d))

-- Whether the service is off: there was a Stop, and every environment is shut down.
abbrev pub is_off : Life → Bool
is_off Open = false
is_off Stopping = false
is_off Off = true
