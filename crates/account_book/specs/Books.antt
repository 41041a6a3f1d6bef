-- What holds of every book, and how far the shutdown of its service has come.
use Rattle.std.specs.Prelude.{◌≡◌, ◌+◌, ◌≤◌, ◌^◌, Bool, true, false, List, length}
use Rattle.std.specs.List.{list_all}
use Rattle.arn_ids.specs.declared.config.Config.{Config}
use Rattle.arn_ids.specs.Environments.{environments, owners}
use Rattle.lambda_wire.specs.Ranges.{IsConfigInRange}
use Rattle.call_types.specs.declared.call.Call.TheVariants.{Stop}
use Rattle.call_types.specs.declared.call.Entry.{Entry}
use Rattle.call_model.specs.Counts.{full}
use Rattle.call_model.specs.History.{stopped}
use Rattle.call_model.specs.Life.{phase}
use Rattle.env_phase.specs.Taking.{is_off}
use Rattle.account_book.specs.Book.{Kept}
use Rattle.account_book.specs.Reached.{IsReached}
use Rattle.account_book.specs.declared.book.Book.TheInside.{Inside}
use Rattle.account_book.specs.declared.book.Life.{Life}
use Rattle.account_book.specs.declared.book.Life.TheVariants.{Open, Stopping, Off}

-- A book's contents as its callers see them.
abbrev pub kept : Inside → Kept
kept b = record { config = b.journal.config; salt = b.salt; max_entries = b.max_entries; history = b.journal.history }

-- What holds of every book: its configuration and its maximum number of entries are in their ranges (the latter above
-- the number of environments and at most 2^32), its history is one that calls led to, each of which the book takes,
-- and while the history has no Stop, there is room for one.
pub record IsBook (b : Inside) : Type 0 where
  pub in_range : IsConfigInRange b.journal.config
  pub room : length (owners b.journal.config) + 1 ≤ b.max_entries
  pub few : b.max_entries ≤ 2 ^ 32
  pub reached : IsReached b.journal.config b.max_entries b.journal.history
  pub stop : stopped b.journal.history ≡ false → full b.journal.config b.max_entries b.journal.history Stop ≡ false

-- How far the shutdown has come, given whether there was a Stop and whether every environment is off.
abbrev life_by : Bool → Bool → Life
life_by false off = Open
life_by true false = Stopping
life_by true true = Off

-- How far the shutdown of the service has come: Open before a Stop, Off if there was a Stop and every environment is
-- off (shut down for good), and Stopping in between.
abbrev pub life : Config → List Entry → Life
life config h = life_by (stopped h) (list_all (λ e. is_off (phase config h e)) (environments config))
