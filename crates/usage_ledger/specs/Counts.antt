-- The four counts of an account.
use Rattle.std.specs.Prelude.{ℕ, ◌+◌}
use Rattle.usage_ledger.specs.declared.counts.Counts.{Counts}

-- The four counts as one value.
abbrev pub counts : ℕ → ℕ → ℕ → ℕ → Counts
counts calls admitted throttled failed =
    record { calls = calls; admitted = admitted; throttled = throttled; failed = failed }

-- The counts before anything was counted: all 0.
abbrev pub no_counts : Counts
no_counts = counts 0 0 0 0

-- The sums of each of the four counts.
abbrev pub plus : Counts → Counts → Counts
plus a b = counts (a.calls + b.calls) (a.admitted + b.admitted) (a.throttled + b.throttled) (a.failed + b.failed)
