use Rattle.std.proofs.Common.{ap}
use Rattle.account_book.specs.Run.{fault_at_end}
use Rattle.script_replay.specs.Views.{seen}
use Rattle.script_replay.specs.declared.line.Progress.{Progress}
use Rattle.script_replay.proofs.Composing.{ends_played}
use Rattle.script_replay.proofs.player.finish.Goals as goal

pub returns-in-Taking-clause-booked : goal.returns-in-Taking-clause-booked
returns-in-Taking-clause-booked g c = ap (λ (p : Progress). fault_at_end (seen p)) c.in-Taking.is

pub returns-in-AtStart-clause-stopped : goal.returns-in-AtStart-clause-stopped
returns-in-AtStart-clause-stopped g c = ends_played _ _ _ _ _ _ _ c.in_ok-play_last.ensures.ok (ap (λ (p : Progress). fault_at_end (seen p)) c.in-AtStart.is)

pub returns-in-AfterForm-clause-stopped : goal.returns-in-AfterForm-clause-stopped
returns-in-AfterForm-clause-stopped g c =
    ends_played _ _ _ _ _ _ _ c.in_ok-play_last.ensures.ok (ap (λ (p : Progress). fault_at_end (seen p)) c.in-AfterForm.is)
