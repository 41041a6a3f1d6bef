-- A book as its callers see it.
use Rattle.std.specs.Prelude.{ℕ, List}
use Rattle.arn_ids.specs.declared.config.Config.{Config}
use Rattle.call_types.specs.declared.call.Entry.{Entry}

-- The contents of a book: its configuration, the salt of its identifiers, the most entries that it takes, and its
-- history, the newest entry first.
pub record Kept : Type 0 where
  pub config : Config
  pub salt : ℕ
  pub max_entries : ℕ
  pub history : List Entry
