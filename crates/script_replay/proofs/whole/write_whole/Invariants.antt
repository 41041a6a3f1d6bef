use Rattle.script_replay.proofs.Written.{WroteUpTo}
use Rattle.script_replay.proofs.whole.write_whole.Given as goal

abbrev pub invariant-loop : goal.invariant-loop
invariant-loop g l = WroteUpTo (g.W.Write.contents l.fn.writer) (g.W.Write.contents l.writer) l.bytes l.rest
