use Rattle.std.proofs.Common.{◌-◌, ◌≤◌, ◌^◌, sym, arith, set, subst}
use Rattle.concurrency_pool.specs.Numbers.{Numbers}
use Rattle.concurrency_pool.specs.Usages.{charged_by}
use Rattle.concurrency_pool.specs.Totals.{AreTotals}
use Rattle.concurrency_pool.proofs.Totals.{unreserved_fit, in_flight_fit, parts_within, totals_with}
use Rattle.concurrency_pool.proofs.pool.Pool.put.Goals as goal

pub moved-self-inside-requires-clause-within : goal.moved-self-inside-requires-clause-within
moved-self-inside-requires-clause-within c =
    let totals = rw c.self.view_is at c.self.invariant in
    rw (c.taken_of_limit.ensures, c.usage-last.ensures.value) (parts_within c.args.function c.requires.from_one c.requires.there totals).0

pub moved-self-inside-requires-2-clause-within : goal.moved-self-inside-requires-2-clause-within
moved-self-inside-requires-2-clause-within c =
    let totals = rw c.self.view_is at c.self.invariant in
    rw (c.taken_of_remainder.ensures, c.usage-last.ensures.value) (parts_within c.args.function c.requires.from_one c.requires.there totals).1

pub moved-self-inside-requires-2-clause-fits : goal.moved-self-inside-requires-2-clause-fits
moved-self-inside-requires-2-clause-fits c = unreserved_fit c.self.invariant

pub moved-self-inside-requires-3-clause-within : goal.moved-self-inside-requires-3-clause-within
moved-self-inside-requires-3-clause-within c =
    let totals = rw c.self.view_is at c.self.invariant in
    rw c.usage-last.ensures.value (parts_within c.args.function c.requires.from_one c.requires.there totals).2

pub moved-self-inside-requires-3-clause-fits : goal.moved-self-inside-requires-3-clause-fits
moved-self-inside-requires-3-clause-fits c = in_flight_fit c.self.invariant

pub invariant_of-self : goal.invariant_of-self
invariant_of-self c =
    let now : Numbers = c.args.self.now in
    let f = c.args.function in
    let usage = c.args.usage in
    let totals = rw c.self.view_is at c.self.invariant in
    let small : charged_by usage ≤ 2 ^ 32 = omega arith in
    let reserved = rw (c.taken_of_limit.ensures, c.taken_of_limit-2.ensures, c.usage-last.ensures.value) at c.moved-self-inside.ensures in
    let unreserved = rw (c.taken_of_remainder.ensures, c.taken_of_remainder-2.ensures, c.usage-last.ensures.value) at c.moved-self-inside-2.ensures in
    let in_flight = rw c.usage-last.ensures.value at c.moved-self-inside-3.ensures in
    let next = totals_with now f usage _ _ _ _ _ _ c.requires.from_one c.requires.there c.requires.leaves small reserved unreserved in_flight totals in
    subst
    (λ (pool : Numbers). AreTotals (record pool { functions = set pool.functions (f - 1) usage }) c.moved-self-inside.result c.moved-self-inside-2.result c.moved-self-inside-3.result)
    (sym c.self.view_is) next
