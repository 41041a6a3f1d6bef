use Rattle.std.proofs.Common.{◌≡◌, ◌∙◌, ◌≤◌, length, map, ap, arith, sum_by}
use Rattle.std.proofs.lemmas.List.{take_all}
use Rattle.arn_ids.proofs.Bounds.{functions_64}
use Rattle.concurrency_pool.specs.Usages.{usage_of, reserved_by}
use Rattle.concurrency_pool.specs.Pools.{opened}
use Rattle.concurrency_pool.proofs.Totals.{opened_totals}
use Rattle.concurrency_pool.proofs.pool.Pool.open.Goals as goal

pub overflow_add-reserved : goal.overflow_add-reserved
overflow_add-reserved c =
    let few = functions_64 c.args.config.now c.functions.ensures.sound in
    let there : c.loop-function.function-index ≤ length c.args.config.now.functions = rw c.functions-function-items.ensures.value at c.loop-function.auto.function-index-end in
    omega (arith, few, there)

pub invariant_of-result : goal.invariant_of-result
invariant_of-result c =
    let config = c.args.config.now in
    let through : length config.functions ≤ c.loop-function.function-index = rw c.functions-function-items.ensures.value at c.loop-function-test.false in
    let all : c.loop-function.functions.items ≡ (opened config).functions = c.loop-function.invariant.functions ∙ ap (map usage_of) (take_all c.loop-function.function-index config.functions through) in
    rw (c.account_limit.ensures, c.least_remainder.ensures, all)
    (opened_totals config c.loop-function.reserved c.functions.ensures.sound (c.loop-function.invariant.reserved ∙ ap (sum_by reserved_by) all))
