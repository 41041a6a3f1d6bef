use Rattle.std.proofs.Common.{arith}
use Rattle.arn_ids.proofs.Bounds.{environments_256}
use Rattle.arn_ids.proofs.Counting.{count_step}
use Rattle.arn_ids.proofs.config.Checked.environments.Goals as goal

pub overflow_cast-count : goal.overflow_cast-count
overflow_cast-count c =
    let few = environments_256 c.args.self.now c.functions-function-items.ensures.sound in
    let is = rw c.functions-function-items.ensures.value at c.function-item.is in
    let within = rw c.functions-function-items.ensures.value at c.loop-function-test.true in
    let step = count_step 1 c.args.self.now.functions c.loop-function.function-index c.function-item.result within is in
    rw c.as_slice.ensures (omega (arith, step, few, c.loop-function.invariant))

pub overflow_add-count : goal.overflow_add-count
overflow_add-count c =
    let few = environments_256 c.args.self.now c.functions-function-items.ensures.sound in
    let is = rw c.functions-function-items.ensures.value at c.function-item.is in
    let within = rw c.functions-function-items.ensures.value at c.loop-function-test.true in
    let step = count_step 1 c.args.self.now.functions c.loop-function.function-index c.function-item.result within is in
    rw c.as_slice.ensures (omega (arith, step, few, c.loop-function.invariant))
