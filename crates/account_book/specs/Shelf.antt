-- The entries of an account as its journal sees them.
use Rattle.std.specs.Prelude.{ℕ, List}
use Rattle.call_types.specs.declared.call.Entry.{Entry}

-- The history, and the number of entries that can be added without an allocation.
pub record Shelf : Type 0 where
  pub history : List Entry
  pub room : ℕ
