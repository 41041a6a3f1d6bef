use Rattle.std.proofs.Common.{sym, arith}
use Rattle.std.specs.BTreeMap.{is_at}
use Rattle.std.specs.Ordering.{nat_cmp}
use Rattle.handover.proofs.Sound.{held_without}
use Rattle.handover.proofs.counter.remove.Goals as goal

pub overflow_sub-bytes : goal.overflow_sub-bytes
overflow_sub-bytes c =
    let all = held_without (is_at (nat_cmp c.args.id)) c.args.waiting.now.entries c.in-Some.request (sym c.in-Some.ensures.value) in
    rw (c.bytes.ensures, c.requires) (omega (arith, all))

pub returns-in-Some-clause-held : goal.returns-in-Some-clause-held
returns-in-Some-clause-held c =
    let all = held_without (is_at (nat_cmp c.args.id)) c.args.waiting.now.entries c.in-Some.request (sym c.in-Some.ensures.value) in
    rw (c.bytes.ensures, c.requires, c.in-Some.ensures.entries) (omega (arith, all))
