use Rattle.std.proofs.Common.{◌∙◌, nat_eq, sym, ap, List}
use Rattle.std.proofs.lemmas.List.{drop_all}
use Rattle.arn_ids.specs.Faults.{has_duplicate_port, repeats, environment_ports}
use Rattle.arn_ids.specs.declared.config.Function.{Function}
use Rattle.arn_ids.proofs.Repeats.{any_port, or_first, or_second}
use Rattle.arn_ids.proofs.conditions.has_duplicate_port.Goals as goal

pub returns-then-has_environment_on : goal.returns-then-has_environment_on
unfolding has_duplicate_port
returns-then-has_environment_on c =
    let found = rw (c.functions-functions.ensures, c.invoke_port.ensures) at c.has_environment_on.ensures in
    sym c.if-has_environment_on.true
    ∙ or_first _ _ _ (found ∙ sym (any_port (nat_eq c.args.config.now.invoke_port) c.args.config.now.functions)) c.if-has_environment_on.true

pub returns : goal.returns
unfolding has_duplicate_port
returns c =
    let functions = c.args.config.now.functions in
    let found = rw (c.functions-functions.ensures, c.invoke_port.ensures) at c.has_environment_on.ensures in
    let rest = c.loop-i.invariant ∙ ap (λ (later : List Function). repeats nat_eq (environment_ports later)) (drop_all c.loop-i.i c.functions-functions.result.now c.loop-i-test.false) in
    or_second _ _ _ (any_port (nat_eq c.args.config.now.invoke_port) functions ∙ sym found ∙ c.if-has_environment_on.false)
    (rw (← c.functions-functions.ensures) (sym rest))
