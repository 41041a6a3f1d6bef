-- A tally as contracts see it.
use Rattle.std.specs.Prelude.{ℕ, Bool, false}
use Rattle.usage_ledger.specs.declared.counts.Counts.{Counts}
use Rattle.usage_ledger.specs.Counts.{no_counts}
use Rattle.usage_ledger.specs.Keeping.{Kept, nothing}

-- A share of each of the four ledgers: the number of its parts of each, and what it counted.
pub record Shared : Type 0 where
  pub parts : ℕ
  pub counts : Counts

-- What a tally holds: the number of its parts of each ledger, whether a join made it, what it counted, and what it
-- keeps.
pub record Held : Type 0 where
  pub parts : ℕ
  pub joined : Bool
  pub counts : Counts
  pub kept : Kept

-- What a tally with these shares holds, if it keeps this.
abbrev pub held : Shared → Bool → Kept → Held
held shared joined kept = record { parts = shared.parts; joined = joined; counts = shared.counts; kept = kept }

-- A tally with this many parts that no join made, and that has counted and kept nothing.
abbrev pub fresh : ℕ → Held
fresh parts = record { parts = parts; joined = false; counts = no_counts; kept = nothing }

-- A tally: what it holds, and for how many more receipts and calls it has room.
pub record Tallied : Type 0 where
  pub held : Held
  pub spare_notes : ℕ
  pub spare_calls : ℕ

-- A tally with the same room that holds this.
abbrev pub with_held : Tallied → Held → Tallied
with_held tally held = record { held = held; spare_notes = tally.spare_notes; spare_calls = tally.spare_calls }
