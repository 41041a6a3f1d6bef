use Rattle.std.proofs.Common.{◌≡◌, ◌∙◌, ◌+◌, ℕ, sym, ap, arith}
use Rattle.arn_ids.specs.Environments.{no_function, owners}
use Rattle.arn_ids.specs.declared.config.Function.{Function}
use Rattle.arn_ids.proofs.Bounds.{functions_64}
use Rattle.arn_ids.proofs.Counting.{numbered_at, owner_here, owner_later, count_step}
use Rattle.arn_ids.proofs.config.Checked.function_of.Goals as goal

pub overflow_cast-result : goal.overflow_cast-result
overflow_cast-result c =
    let few = functions_64 c.args.self.now c.functions-function-items.ensures.sound in
    let within = rw c.functions-function-items.ensures.value at c.loop-i-test.true in
    omega (arith, within, few)

pub overflow_add-result : goal.overflow_add-result
overflow_add-result c =
    let few = functions_64 c.args.self.now c.functions-function-items.ensures.sound in
    let within = rw c.functions-function-items.ensures.value at c.loop-i-test.true in
    omega (arith, within, few)

pub returns-then-place-slots : goal.returns-then-place-slots
returns-then-place-slots c =
    let functions = c.args.self.now.functions in
    let is = rw c.functions-function-items.ensures.value at c.function-item.is in
    let within = rw c.functions-function-items.ensures.value at c.loop-i-test.true in
    let own = rw c.as_slice-slots.ensures at c.if-place-slots.true in
    let number : c.loop-i.i + 1 ≡ 1 + c.loop-i.i = omega arith in
    number ∙ sym (ap (λ (owner : ℕ × Function). owner.0)
    (numbered_at (0, no_function) (owners c.args.self.now) c.args.env c.requires.from_one
    ∙ c.loop-i.invariant.same
    ∙ owner_here functions c.loop-i.i c.loop-i.place c.function-item.result within is own))

pub loop-i-preserved : goal.loop-i-preserved
loop-i-preserved c =
    let functions = c.args.self.now.functions in
    let is = rw c.functions-function-items.ensures.value at c.function-item.is in
    let within = rw c.functions-function-items.ensures.value at c.loop-i-test.true in
    let beyond = rw c.as_slice-slots.ensures at c.if-place-slots.false in
    let step = count_step 1 functions c.loop-i.i c.function-item.result within is in
    rw c.as_slice-slots.ensures (record {
      same = c.loop-i.invariant.same ∙ owner_later functions c.loop-i.i c.loop-i.place c.function-item.result within is beyond;
      within = omega (arith, step, c.loop-i.invariant.within, beyond);
    })
