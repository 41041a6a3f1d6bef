use Rattle.std.proofs.Common.{◌∙◌, sym, arith, bytes_eq}
use Rattle.std.proofs.lemmas.List.Quantifiers.{position-Some}
use Rattle.arn_ids.specs.Environments.{no_function}
use Rattle.arn_ids.specs.declared.config.Function.{Function}
use Rattle.arn_ids.proofs.Bounds.{functions_64}
use Rattle.arn_ids.proofs.config.Checked.function_named.Goals as goal

pub overflow_cast-result : goal.overflow_cast-result
overflow_cast-result c =
    let few = functions_64 c.args.self.now c.functions.ensures.sound in
    let found = rw c.functions.ensures.value at c.place_of.ensures in
    let at_place = position-Some (λ (function : Function). bytes_eq function.name c.args.name.now) c.args.self.now.functions c.in_ok-place.place no_function (sym found ∙ c.in_ok-place.was) in
    omega (arith, at_place.0)

pub overflow_add-result : goal.overflow_add-result
overflow_add-result c =
    let few = functions_64 c.args.self.now c.functions.ensures.sound in
    let found = rw c.functions.ensures.value at c.place_of.ensures in
    let at_place = position-Some (λ (function : Function). bytes_eq function.name c.args.name.now) c.args.self.now.functions c.in_ok-place.place no_function (sym found ∙ c.in_ok-place.was) in
    omega (arith, at_place.0)
