-- The compact text of the counts' value.
use Rattle.std.proofs.Common.{◌≡◌, rules, append_assoc}
use Rattle.call_types.specs.declared.stats.Stats.{Stats}
use Rattle.serde_json.specs.Written.{compact_text}
use Rattle.serde_json.proofs.OnLiterals.{serde_json_on_literals}
use Rattle.long_poll.specs.Views.{stats_data, stats_text}

pub stats_written : (stats : Stats) → compact_text (stats_data stats) ≡ stats_text stats
unfolding stats_text serde_json_on_literals
stats_written stats = search (rules, append_assoc)
