-- A journal as the book sees it.
use Rattle.std.specs.Prelude.{ℕ, List}
use Rattle.arn_ids.specs.declared.config.Config.{Config}
use Rattle.call_types.specs.declared.call.Entry.{Entry}

-- The configuration, the history, the number of entries that can be added without an allocation, and the most
-- extensions that any environment has had at once.
pub record Pages : Type 0 where
  pub config : Config
  pub history : List Entry
  pub room : ℕ
  pub widest : ℕ
