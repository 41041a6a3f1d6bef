-- The settled end of a service.
use Rattle.std.specs.Prelude.{◌≡◌, ◌^◌, ℕ, List, ◌++◌, Option, Some, codes, decimal}
use Rattle.arn_ids.specs.declared.config.Config.{Config}
use Rattle.call_types.specs.declared.call.Entry.{Entry}
use Rattle.call_types.specs.declared.stats.Stats.{Stats}
use Rattle.usage_ledger.specs.Tallies.{Tallied}
use Rattle.account_lock.specs.Counting.{counts_of}
use Rattle.headline.specs.Headline.{Headline}

-- The counts are those of this history of the configuration, for which the headline holds. The tally has counted what
-- that history counts. It has all parts of the account's four ledgers, so no other tally has a share of what the
-- threads counted.
pub record IsTallied (config : Config) (history : List Entry) (counts : Stats) (tally : Tallied) : Type 0 where
  pub headline : Headline config history counts
  pub parts : tally.held.parts ≡ 2 ^ 32
  pub counted : tally.held.counts ≡ counts_of history

-- The line that a service writes at its end: the three counts.
abbrev pub closing_line : Stats → List ℕ
closing_line counts =
    codes "admitted " ++ decimal counts.admitted ++ codes " throttled " ++ decimal counts.throttled ++ codes " failed "
    ++ decimal counts.failed

-- The counts are those of a settled end with this history and this tally, and the text is their line.
abbrev pub IsClosing : Config → List Entry → Stats → Option (List ℕ) → Tallied → Type 0
IsClosing config history counts text tally =
    IsTallied config history counts tally × (text ≡ Some (closing_line counts))
