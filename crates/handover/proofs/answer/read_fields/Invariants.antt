use Rattle.std.proofs.Common.{◌≡◌, codes}
use Rattle.http_header.specs.HeaderMap.{get_all}
use Rattle.handover.specs.Posted.{fields_in}
use Rattle.handover.proofs.Fields.{with_all}
use Rattle.handover.proofs.answer.read_fields.Given as goal

abbrev pub invariant-loop-line : goal.invariant-loop-line
invariant-loop-line l =
    fields_in (get_all l.headers (codes "lambda-local-header")) ≡ with_all l.fields.items (fields_in l.line-iterator)
