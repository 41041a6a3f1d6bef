use Rattle.std.proofs.Common.{◌∙◌, ◌+◌, sym, bytes_eq, arith}
use Rattle.std.proofs.lemmas.List.{take_rest}
use Rattle.arn_ids.proofs.Repeats.{repeats_here, repeats_later}
use Rattle.arn_ids.proofs.conditions.repeats_name.Goals as goal

pub returns-then-has_name : goal.returns-then-has_name
returns-then-has_name c =
    let found = rw (c.as_str.ensures, take_rest c.args.names.now (c.loop-i.i + 1)) at c.has_name.ensures in
    sym
    (c.loop-i.invariant ∙ repeats_here bytes_eq c.args.names.now c.loop-i.i c.index-names-i.result (omega arith) c.index-names-i.is (sym found ∙ c.if-has_name.true))

pub loop-i-preserved : goal.loop-i-preserved
loop-i-preserved c =
    let found = rw (c.as_str.ensures, take_rest c.args.names.now (c.loop-i.i + 1)) at c.has_name.ensures in
    c.loop-i.invariant
    ∙ repeats_later bytes_eq c.args.names.now c.loop-i.i c.index-names-i.result (omega arith) c.index-names-i.is (sym found ∙ c.if-has_name.false)
