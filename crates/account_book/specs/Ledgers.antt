-- The entries of an account, with what is derived from them.
use Rattle.std.specs.Prelude.{◌≡◌, ℕ, ◌+◌, ◌*◌, ◌≤◌, ◌^◌, List, length, reverse}
use Rattle.call_types.specs.declared.call.Entry.{Entry}
use Rattle.call_model.specs.Counts.{admitted, throttled, failed}
use Rattle.call_model.specs.History.{stopped}
use Rattle.call_model.specs.CallCounts.{call_counts}
use Rattle.account_book.specs.declared.ledger.Ledger.TheInside.{Inside}
use Rattle.account_book.specs.declared.totals.Counters.{Counters}
use Rattle.arn_ids.specs.Limits.{most_environments, most_extensions}
use Rattle.account_book.specs.Answering.{most_of_one}
use Rattle.account_book.specs.Indexes.{answers_by_ticket}
use Rattle.account_book.specs.Shelf.{Shelf}

-- A ledger's contents as the journal sees them.
abbrev pub shelf : Inside → Shelf
shelf l = record { history = reverse l.entries.0; room = l.entries.1 }

-- The numbers of admitted, throttled and failed invocations of a history.
abbrev pub totals : List Entry → Counters
totals h = record { admitted = admitted h; throttled = throttled h; failed = failed h }

-- The most answers that an entry has: those of every environment, with the most extensions each, and the account's own.
abbrev pub answer_limit : ℕ
answer_limit = most_of_one most_extensions * most_environments + 1

-- What holds of every ledger: what is kept beside the entries agrees with them, the counters are within their bounds,
-- each list has the same room, and entries and room together are at most 2^32.
pub record IsLedger (l : Inside) : Type 0 where
  pub counts_are : reverse l.counts.0 ≡ call_counts (reverse l.entries.0)
  pub given_is : l.given.0 ≡ answers_by_ticket (reverse l.entries.0)
  pub totals_are : l.totals ≡ totals (reverse l.entries.0)
  pub few_admitted : l.totals.admitted ≤ length l.entries.0
  pub few_throttled : l.totals.throttled ≤ answer_limit * length l.entries.0
  pub few_failed : l.totals.failed ≤ answer_limit * length l.entries.0
  pub stopped_is : l.stopped ≡ stopped (reverse l.entries.0)
  pub counts_room : l.counts.1 ≡ l.entries.1
  pub given_room : l.given.1 ≡ l.entries.1
  pub few : length l.entries.0 + l.entries.1 ≤ 2 ^ 32
