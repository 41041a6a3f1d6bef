use Rattle.std.proofs.Common.{sym}
use Rattle.std.proofs.lemmas.List.{take_rest}
use Rattle.script_replay.proofs.LineEnds.{feed_ends_line, no_feed}
use Rattle.script_replay.proofs.player.cut_line.Goals as goal

pub returns-in_err-end : goal.returns-in_err-end
returns-in_err-end c = rw c.from_residual.ensures (no_feed c.args.bytes.now (sym c.in_err-end.ensures))

pub returns : goal.returns
returns c = rw take_rest (feed_ends_line c.args.bytes.now c.in_ok-end.end (sym c.in_ok-end.ensures))
