use Rattle.script_replay.proofs.ReadingOn.{replays_so}
use Rattle.script_replay.proofs.player.replay.Goals as goal

pub returns-clause-ok : goal.returns-clause-ok
returns-clause-ok g c = replays_so _ _ _ _ _ c.replay_by.ensures.ok c.replay_by.ensures.booked
