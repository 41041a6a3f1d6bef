use Rattle.std.proofs.Common.{◌∙◌, ◌+◌, sym, arith}
use Rattle.std.proofs.lemmas.List.{take_rest}
use Rattle.arn_ids.specs.Faults.{is_namesake, has_duplicate_name}
use Rattle.arn_ids.proofs.Repeats.{repeats_here, repeats_later}
use Rattle.arn_ids.proofs.conditions.has_duplicate_name.Goals as goal

pub returns-then-has_function_named : goal.returns-then-has_function_named
unfolding has_duplicate_name
returns-then-has_function_named c =
    let functions = c.functions-functions.result.now in
    let found = rw (c.as_str.ensures, take_rest functions (c.loop-i.i + 1)) at c.has_function_named.ensures in
    rw (← c.functions-functions.ensures)
    (sym (c.loop-i.invariant ∙ repeats_here is_namesake functions c.loop-i.i c.index-functions-i.result (omega arith) c.index-functions-i.is (sym found ∙ c.if-has_function_named.true)))

pub loop-i-preserved : goal.loop-i-preserved
loop-i-preserved c =
    let functions = c.functions-functions.result.now in
    let found = rw (c.as_str.ensures, take_rest functions (c.loop-i.i + 1)) at c.has_function_named.ensures in
    c.loop-i.invariant
    ∙ repeats_later is_namesake functions c.loop-i.i c.index-functions-i.result (omega arith) c.index-functions-i.is (sym found ∙ c.if-has_function_named.false)
