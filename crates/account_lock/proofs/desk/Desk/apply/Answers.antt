use Rattle.std.proofs.Common.{◌++◌, length, ap, ◌∙◌, sym, arith}
use Rattle.usage_ledger.specs.Counts.{plus}
use Rattle.usage_ledger.specs.Keeping.{Steps}
use Rattle.usage_ledger.specs.Tallies.{Held}
use Rattle.account_lock.specs.Bells.{rings_of, bells_after, own_bell, given}
use Rattle.account_lock.specs.Counting.{counts_of}
use Rattle.account_lock.specs.Desks.{opened, added_to, all_bells, after_step, is_full}
use Rattle.account_lock.proofs.AfterCall.{behind, within, risen_by, rise_by, rising_by, desk_kept}
use Rattle.account_lock.proofs.desk.Desk.apply.Goals as goal

pub serve_step-requires-clause-start : goal.serve_step-requires-clause-start
serve_step-requires-clause-start g c =
    within c.self.inside.book c.take.new.self c.args.now c.args.call c.len-start.result c.in-Ok-take.ensures.step c.len-start.ensures.value

pub serve_step-requires-clause-notes : goal.serve_step-requires-clause-notes
serve_step-requires-clause-notes g c =
    let few = behind c.self.inside.book c.take.new.self c.args.now c.args.call c.len-start.result c.in-Ok-take.ensures.step c.len-start.ensures.value in
    omega (arith, ap length few, c.most_given-most.ensures c.args.now c.count_due-expiries.ensures.value, c.in-Ok.ensures.tally.0)

pub serve_step-requires-clause-room : goal.serve_step-requires-clause-room
serve_step-requires-clause-room g c =
    let few = behind c.self.inside.book c.take.new.self c.args.now c.args.call c.len-start.result c.in-Ok-take.ensures.step c.len-start.ensures.value in
    omega
    (arith, ap length few, c.most_given-most.ensures c.args.now c.count_due-expiries.ensures.value, c.in-Ok.ensures.rings, ap length (c.make_room.ensures.same.1 ∙ c.self.invariant.1))

pub serve_step-requires-clause-rising : goal.serve_step-requires-clause-rising
serve_step-requires-clause-rising g c =
    let old = c.self.inside in
    let all = c.store.ensures.items ∙ ap (λ bells. bells ++ own_bell c.in-Ok-take.ticket c.args.bell) c.make_room.ensures.same.0 in
    rising_by old.book c.take.new.self c.args.now c.args.call c.in-Ok-take.ticket old.bells.items c.store.new.bells.items c.args.bell old.totals c.self.invariant.0 c.in-Ok-take.ensures.step c.in-Ok-take.ensures.ticket all

pub serve_step-requires-clause-risen : goal.serve_step-requires-clause-risen
serve_step-requires-clause-risen g c =
    risen_by c.self.inside.book c.take.new.self c.args.now c.args.call c.stats-before.result c.stats-before.ensures c.in-Ok-take.ensures.step

pub invariant_of-self-2 : goal.invariant_of-self-2
invariant_of-self-2 g c =
    let old = c.self.inside in
    let step = c.in-Ok-take.ensures.step in
    let t = c.in-Ok-take.ticket in
    let new = behind old.book c.take.new.self c.args.now c.args.call c.len-start.result step c.len-start.ensures.value in
    let w = rw (← c.self.view_is) at c.requires.within in
    let rose = rise_by old.book c.take.new.self c.args.now c.args.call c.stats-before.result c.stats-before.ensures step w in
    let all = c.store.ensures.items ∙ ap (λ bells. bells ++ own_bell t c.args.bell) c.make_room.ensures.same.0 in
    let kept =
    desk_kept old.book c.take.new.self c.args.now c.args.call t old.bells.items c.serve_step.new.bells.items c.args.bell old.totals c.serve_step.new.totals c.self.invariant.0 w step c.in-Ok-take.ensures.ticket
    (c.serve_step.ensures.bells ∙ (λ i. bells_after (new i) (all i)))
    (c.serve_step.ensures.totals ∙ ap (plus old.totals) rose)
    in
    (kept, c.take_all.ensures.none)

pub returns-clause-taken : goal.returns-clause-taken
returns-clause-taken g c =
    let old = c.self.inside in
    let step = c.in-Ok-take.ensures.step in
    let t = c.in-Ok-take.ticket in
    let new = behind old.book c.take.new.self c.args.now c.args.call c.len-start.result step c.len-start.ensures.value in
    let w = rw (← c.self.view_is) at c.requires.within in
    let rose = rise_by old.book c.take.new.self c.args.now c.args.call c.stats-before.result c.stats-before.ensures step w in
    let all = c.store.ensures.items ∙ ap (λ bells. bells ++ own_bell t c.args.bell) c.make_room.ensures.same.0 in
    let left = c.serve_step.ensures.bells ∙ (λ i. bells_after (new i) (all i)) in
    let sums = c.serve_step.ensures.totals ∙ ap (plus old.totals) rose in
    let none = c.make_room.ensures.same.1 ∙ c.self.invariant.1 in
    let was = c.make_room.ensures.same.2 in
    let k = c.made.new.self.held.kept in
    let answers = new ∙ ap (λ d. given (added_to d.book c.args.now c.args.call)) c.self.view_is in
    record {
      room = ap (λ d. is_full d.book c.args.call) (sym c.self.view_is) ∙ sym c.if-full.ensures;
      taken = (λ i. opened (step i) (left i) (sums i)) ∙ ap (λ d. after_step d c.args.now c.args.call t c.args.bell) c.self.view_is;
      newest = c.in-Ok-take.ensures.ticket;
      rings =
          c.take_all.ensures.bells ∙ c.serve_step.ensures.rings ∙ (λ i. none i ++ rings_of (new i) (all i))
          ∙ ap (λ d. rings_of (given (added_to d.book c.args.now c.args.call)) (all_bells d t c.args.bell)) c.self.view_is;
      counts =
          c.made.ensures.same
          ∙ ap (λ (s : Held). record s { kept = k }) c.serve_step.ensures.held
          ∙ (λ i. record (was i) { counts = plus (was i).counts (rose i); kept = k })
          ∙ ap
          (λ d. record c.args.tally.now.held { counts = plus c.args.tally.now.held.counts (counts_of (added_to d.book c.args.now c.args.call)); kept = k }) c.self.view_is;
      keeps = (
        c.serve_step.new.tally.held.kept,
        coe 0 1 (i. Steps g.K.Keep.notes (was i).kept (answers i) c.serve_step.new.tally.held.kept) c.serve_step.ensures.kept,
        rw (← c.head-head.ensures) c.made.ensures.kept,
      );
    }
