use Rattle.std.proofs.Common.{◌∙◌, sym}
use Rattle.arn_ids.specs.Faults.{environment_ports}
use Rattle.arn_ids.proofs.Counting.{numbered_at}
use Rattle.trace.proofs.Ports.{port_here, port_later}
use Rattle.trace.proofs.listing.environment.port_at.Goals as goal

pub returns-then-place-slots : goal.returns-then-place-slots
returns-then-place-slots c =
    let functions = c.args.config.now.functions in
    let is = rw c.functions-function-items.ensures.value at c.function-item.is in
    let within = rw c.functions-function-items.ensures.value at c.loop-function-test.true in
    let own = rw c.as_slice-slots.ensures at c.if-place-slots.true in
    rw c.as_slice-slots.ensures
    (sym (numbered_at 0 (environment_ports functions) c.args.env c.requires.from_one
    ∙ c.loop-function.invariant
    ∙ port_here functions c.loop-function.function-index c.loop-function.place c.function-item.result _ within is own))

pub loop-function-preserved : goal.loop-function-preserved
loop-function-preserved c =
    let functions = c.args.config.now.functions in
    let is = rw c.functions-function-items.ensures.value at c.function-item.is in
    let within = rw c.functions-function-items.ensures.value at c.loop-function-test.true in
    let beyond = rw c.as_slice-slots.ensures at c.if-place-slots.false in
    rw c.as_slice-slots.ensures
    (c.loop-function.invariant ∙ port_later functions c.loop-function.function-index c.loop-function.place c.function-item.result within is beyond)
