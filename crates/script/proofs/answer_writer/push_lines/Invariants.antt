use Rattle.std.proofs.Common.{◌≡◌, ◌++◌, take, reverse}
use Rattle.script.specs.Writing.{marked_lines}
use Rattle.script.proofs.answer_writer.push_lines.Given as goal

abbrev pub invariant-loop-ticket : goal.invariant-loop-ticket
invariant-loop-ticket g l =
    g.W.Sink.text l.out ≡ g.W.Sink.text l.fn.out ++ marked_lines l.past.salt (reverse l.past.entries.now.0) l.mark l.number (take l.ticket-index l.answers)
