use Rattle.std.proofs.Common.{None, ap}
use Rattle.script_replay.specs.Views.{seen}
use Rattle.script_replay.proofs.ReadingOn.{leads_so, stops_nowhere}
use Rattle.script_replay.proofs.player.lead.Goals as goal

pub returns-in-Taking-clause-ok : goal.returns-in-Taking-clause-ok
returns-in-Taking-clause-ok g c = leads_so _ _ _ _ _ c.in_ok-replay_by.ensures.ok (ap seen c.in-Taking.is)

pub returns-in-AtStart-clause-stopped : goal.returns-in-AtStart-clause-stopped
returns-in-AtStart-clause-stopped g c = stops_nowhere _ None

pub returns-clause-stopped : goal.returns-clause-stopped
returns-clause-stopped g c = stops_nowhere _ None
