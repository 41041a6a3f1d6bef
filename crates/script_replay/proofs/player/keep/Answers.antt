use Rattle.std.proofs.Common.{arith}
use Rattle.script_replay.proofs.LongLines.{stops_past}
use Rattle.script_replay.proofs.player.keep.Goals as goal

pub returns-then-len-bytes-clause-stopped : goal.returns-then-len-bytes-clause-stopped
returns-then-len-bytes-clause-stopped c =
    λ old rest. stops_past _ _ c.args.player.now.pending.items c.args.bytes.now rest old c.overlong.result c.requires.pending c.requires.free
    (omega (arith, c.if-len-bytes.true, c.len.ensures)) c.overlong.ensures
