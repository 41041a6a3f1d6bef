-- What a journal keeps beside the entries, and what holds of every journal.
use Rattle.std.specs.Prelude.{◌≡◌, ◌<◌, ◌^◌, None}
use Rattle.std.specs.Arc.{arc_value}
use Rattle.arn_ids.specs.Faults.{first_fault}
use Rattle.call_model.specs.Next.{IsLegal, last_moment}
use Rattle.concurrency_pool.specs.Meets.{numbers}
use Rattle.account_book.specs.declared.journal.Journal.TheInside.{Inside}
use Rattle.account_book.specs.Pages.{Pages}
use Rattle.fleet.specs.Sites.{sites}
use Rattle.account_book.specs.Taking.{AllKnown, request_counts}

-- A journal's contents as the book sees them.
abbrev pub pages : Inside → Pages
pages j = record {
  config = arc_value j.config;
  history = j.ledger.history;
  room = j.ledger.room;
  widest = j.fleet.widest;
}

-- What holds of every journal: its configuration has no fault, its history is legal, and what is kept beside the
-- history agrees with it.
pub record IsJournal (j : Inside) : Type 0 where
  pub sound : first_fault (arc_value j.config) ≡ None
  pub legal : IsLegal (arc_value j.config) j.ledger.history
  pub all_known : AllKnown (arc_value j.config) j.ledger.history
  pub early : last_moment j.ledger.history < 2 ^ 53
  pub sites_are : j.fleet.sites ≡ sites (arc_value j.config) j.ledger.history
  pub pool_is : j.fleet.pool ≡ numbers (arc_value j.config) j.ledger.history
  pub requests_are : j.requests.items ≡ request_counts (arc_value j.config) j.ledger.history
