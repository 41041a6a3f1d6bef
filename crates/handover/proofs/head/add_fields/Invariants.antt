use Rattle.std.proofs.Common.{◌≡◌, ◌++◌}
use Rattle.std.specs.List.{flat_map}
use Rattle.http_header.specs.HeaderMap.{pairs}
use Rattle.handover.specs.Heads.{field_tokens}
use Rattle.handover.proofs.head.add_fields.Given as goal

abbrev pub invariant-loop-name : goal.invariant-loop-name
invariant-loop-name l = record {
  before : l.writer.before ≡ l.fn.writer.before;
  tokens : l.writer.tokens ++ flat_map field_tokens l.name-iterator ≡ l.fn.writer.tokens ++ flat_map field_tokens (pairs l.headers);
}
