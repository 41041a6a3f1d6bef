-- A desk as contracts see it, what holds of every desk, and what a call changes in it.
use Rattle.std.specs.Prelude.{◌≡◌, ℕ, ◌++◌, Bool, true, not, is_some, List, Option}
use Rattle.arn_ids.specs.Limits.{greatest_moment}
use Rattle.arn_ids.specs.declared.config.Config.{Config}
use Rattle.std.specs.List.{list_all}
use Rattle.account_book.specs.Book.{Kept as Booked}
use Rattle.account_book.specs.Premature.{premature}
use Rattle.call_types.specs.declared.call.Call.{Call}
use Rattle.call_types.specs.declared.call.Entry.{Entry}
use Rattle.call_model.specs.Counts.{full}
use Rattle.call_model.specs.History.{pending}
use Rattle.call_model.specs.Next.{IsLegal, added, due, next, first}
use Rattle.usage_ledger.specs.Counts.{plus}
use Rattle.usage_ledger.specs.Keeping.{Kept}
use Rattle.usage_ledger.specs.Tallies.{Held}
use Rattle.usage_ledger.specs.declared.counts.Counts.{Counts}
use Rattle.account_lock.specs.Bells.{are_rising, rings_of, bells_after, own_bell, given}
use Rattle.account_lock.specs.Counting.{counts_of}

-- The contents of a desk: its book, the bells of the callers that wait, each with the ticket whose answer its caller
-- waits for, and the totals of its ledgers.
pub record Opened (B : Type 0) : Type 0 where
  pub book : Booked
  pub bells : List (ℕ × B)
  pub totals : Counts

-- A desk with these contents.
abbrev pub opened : {B : Type 0} → Booked → List (ℕ × B) → Counts → Opened B
opened book bells totals = record { book = book; bells = bells; totals = totals }

-- What holds of every desk: its history is legal; each bell belongs to a pending ticket, which has no other bell, and
-- the bells are in the order of their tickets; and the totals are what the history counts.
pub record IsDesk {B : Type 0} (desk : Opened B) : Type 0 where
  pub legal : IsLegal desk.book.config desk.book.history
  pub waiting : list_all (λ bell. pending desk.book.history bell.0) desk.bells ≡ true
  pub rising : are_rising desk.bells ≡ true
  pub counted : desk.totals ≡ counts_of desk.book.history

-- The entries that a call adds to a book, the newest first.
abbrev pub added_to : Booked → ℕ → Call → List Entry
added_to book now call = added book.config book.history now call

-- The book after a call.
abbrev pub next_book : Booked → ℕ → Call → Booked
next_book book now call = record book { history = next book.config book.history now call }

-- All bells once a call has this ticket, before any of them rings.
abbrev pub all_bells : {B : Type 0} → Opened B → ℕ → Option B → List (ℕ × B)
all_bells desk ticket bell = desk.bells ++ own_bell ticket bell

-- The bells that a step hands out: those of the tickets that it answers, in the order of the answers.
abbrev pub handed_out : {B : Type 0} → Opened B → ℕ → Call → ℕ → Option B → List B
handed_out desk now call ticket bell =
    rings_of (given (added_to desk.book now call)) (all_bells desk ticket bell)

-- What a tally holds after it counted what these entries count, if it now keeps `kept`.
abbrev pub held_after : List Entry → Held → Kept → Held
held_after entries before kept =
    record before { counts = plus before.counts (counts_of entries); kept = kept }

-- Whether a book has no room for a call.
abbrev pub is_full : Booked → Call → Bool
is_full book call = full book.config book.max_entries book.history call

-- Whether no deadline is running: no environment is due even at the greatest moment.
abbrev pub at_rest : Config → List Entry → Bool
at_rest config h = not (is_some (first (due config h greatest_moment)))

-- Whether no deadline is running in a book.
abbrev pub rests : Booked → Bool
rests book = at_rest book.config book.history

-- Whether a call would be premature in a book at a moment.
abbrev pub is_premature : Booked → ℕ → Call → Bool
is_premature book now call = premature book.config book.history now call

-- The desk after a call that was taken with this ticket and this bell.
abbrev pub after_step : {B : Type 0} → Opened B → ℕ → Call → ℕ → Option B → Opened B
after_step desk now call ticket bell =
    opened (next_book desk.book now call)
    (bells_after (given (added_to desk.book now call)) (all_bells desk ticket bell))
    (plus desk.totals (counts_of (added_to desk.book now call)))
