use Rattle.std.proofs.Common.{◌≡◌, ◌++◌, map, take}
use Rattle.trace.specs.Telling.{part_token}
use Rattle.trace.proofs.draft.write_parts.Given as goal

abbrev pub invariant-loop-part : goal.invariant-loop-part
invariant-loop-part l = record {
  before : l.writer.before ≡ l.fn.writer.before;
  tokens : l.writer.tokens ≡ l.fn.writer.tokens ++ map part_token (take l.part-index l.parts);
}
