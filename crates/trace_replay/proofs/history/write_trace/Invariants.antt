use Rattle.std.proofs.Common.{◌≡◌, ◌≤◌, ◌-◌, length}
use Rattle.fleet.specs.Reaches.{before}
use Rattle.trace.specs.Sites.{sites}
use Rattle.trace_replay.specs.Lines.{Underway}
use Rattle.trace_replay.proofs.history.write_trace.Given as goal

abbrev pub invariant-loop-ticket : goal.invariant-loop-ticket
invariant-loop-ticket g l = record {
  within : l.ticket ≤ length l.book.history;
  follows : l.follower ≡ sites l.book.config (before l.book.history l.ticket);
  underway : Underway l.bodies l.book l.ticket l.out.items (g.W.Write.contents l.fn.writer) (g.W.Write.contents l.writer);
}

abbrev pub decreases-loop-ticket : goal.decreases-loop-ticket
decreases-loop-ticket g l = length l.book.history - l.ticket
