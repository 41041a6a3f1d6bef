-- The compact texts of what a clock shows, and of the version.
use Rattle.std.proofs.Common.{◌≡◌, ℕ, Bool, true, false, rules, append_assoc}
use Rattle.serde_json.specs.Written.{compact_text}
use Rattle.serde_json.proofs.OnLiterals.{serde_json_on_literals}
use Rattle.long_poll.specs.Views.{clock_data, clock_text, version_data, version_text}

pub clock_written : (now : ℕ) (running : Bool) → compact_text (clock_data now running) ≡ clock_text now running
unfolding clock_text serde_json_on_literals
clock_written now true = search (rules, append_assoc)
clock_written now false = search (rules, append_assoc)

pub version_written : compact_text version_data ≡ version_text
unfolding version_text serde_json_on_literals
version_written = search rules
