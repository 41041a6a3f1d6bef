-- What some tallies have together.
use Rattle.std.specs.Prelude.{ℕ, Bool, ◌==◌, ◌&&◌, List, length, count_by, sum_by}
use Rattle.usage_ledger.specs.Counts.{counts}
use Rattle.usage_ledger.specs.Keeping.{Kept}
use Rattle.usage_ledger.specs.Tallies.{Tallied}
use Rattle.usage_ledger.specs.declared.counts.Counts.{Counts}

-- The number of their parts of each ledger.
abbrev pub parts_in : List Tallied → ℕ
parts_in tallies = sum_by (λ tally. tally.held.parts) tallies

-- The sums of their counts.
abbrev pub counts_in : List Tallied → Counts
counts_in tallies = counts
    (sum_by (λ tally. tally.held.counts.calls) tallies)
    (sum_by (λ tally. tally.held.counts.admitted) tallies)
    (sum_by (λ tally. tally.held.counts.throttled) tallies)
    (sum_by (λ tally. tally.held.counts.failed) tallies)

-- How often a ticket occurs in a list of pairs.
abbrev pub occurrences : {X : Type 0} → ℕ → List (ℕ × X) → ℕ
occurrences t pairs = count_by (λ pair. pair.0 == t) pairs

-- How often a ticket occurs in this part of what the tallies keep.
abbrev pub occurrences_in : {X : Type 0} → (Kept → List (ℕ × X)) → ℕ → List Tallied → ℕ
occurrences_in part t tallies = sum_by (λ tally. occurrences t (part tally.held.kept)) tallies

-- How many receipts of a ticket the tallies keep.
abbrev pub receipts_of : ℕ → List Tallied → ℕ
receipts_of = occurrences_in (λ kept. kept.receipts)

-- How many calls with a ticket the tallies keep.
abbrev pub calls_of : ℕ → List Tallied → ℕ
calls_of = occurrences_in (λ kept. kept.calls)

-- Whether a tally keeps neither receipts nor calls.
abbrev pub keeps_nothing : Tallied → Bool
keeps_nothing tally = (length tally.held.kept.receipts == 0) && (length tally.held.kept.calls == 0)
