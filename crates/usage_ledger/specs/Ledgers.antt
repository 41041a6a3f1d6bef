-- The names of an account's four ledgers, and of its history.
use Rattle.std.specs.Prelude.{ℕ}
use Rattle.atomic_table.specs.Seated.{TableId}

-- The name of each of the four ledgers, and of the spine of the history.
pub record Names : Type 0 where
  pub calls : ℕ
  pub admitted : ℕ
  pub throttled : ℕ
  pub failed : ℕ
  pub spine : TableId

-- These names as one value.
abbrev pub names : ℕ → ℕ → ℕ → ℕ → TableId → Names
names calls admitted throttled failed spine =
    record { calls = calls; admitted = admitted; throttled = throttled; failed = failed; spine = spine }
