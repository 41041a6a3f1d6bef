use Rattle.std.proofs.Common.{◌∙◌, ◌++◌, sym, ap, arith}
use Rattle.std.proofs.lemmas.List.{append-nil}
use Rattle.account_lock.specs.Bells.{are_rising}
use Rattle.account_lock.proofs.Searching.{found, absent, others_rise}
use Rattle.account_lock.proofs.desk.bells.take_bell.Goals as goal
use Rattle.account_lock.proofs.desk.bells.take_bell.Goals.{else-place-len-via-then-place-len+else-index-ticket, else-place-len-via-else-place-len}

pub returns-then-index-ticket-clause-rings : goal.returns-then-index-ticket-clause-rings
returns-then-index-ticket-clause-rings g c =
    let between = rw (c.deref.ensures.value) at c.find_bell-place.ensures.between in
    let f = found c.args.ticket c.args.bells.now.items c.find_bell-place.result c.remove-bell.result c.index.result.now (omega (arith, c.if-place-len.true, c.len.ensures)) c.remove-bell.ensures.value c.index.ensures c.if-index-ticket.true between.0 c.requires.rising in
    c.push_reserved.ensures.items ∙ ap (λ rings. c.args.rings.now.items ++ rings) (sym f.0)

pub returns-then-index-ticket-clause-bells : goal.returns-then-index-ticket-clause-bells
returns-then-index-ticket-clause-bells g c =
    let between = rw (c.deref.ensures.value) at c.find_bell-place.ensures.between in
    let f = found c.args.ticket c.args.bells.now.items c.find_bell-place.result c.remove-bell.result c.index.result.now (omega (arith, c.if-place-len.true, c.len.ensures)) c.remove-bell.ensures.value c.index.ensures c.if-index-ticket.true between.0 c.requires.rising in
    c.remove-bell.ensures.items ∙ sym f.1

pub returns-then-index-ticket-clause-rising : goal.returns-then-index-ticket-clause-rising
returns-then-index-ticket-clause-rising g c =
    ap are_rising (returns-then-index-ticket-clause-bells g c) ∙ others_rise c.args.ticket c.args.bells.now.items c.requires.rising

pub returns-else-place-len-clause-rings : goal.returns-else-place-len-clause-rings
returns-else-place-len-clause-rings g c =
    let between = rw (c.deref.ensures.value) at c.find_bell-place.ensures.between in
    let none = absent c.args.ticket c.args.bells.now.items c.find_bell-place.result between.0 between.1 c.requires.rising (λ lt. elim c.else-place-len.branch [
      | else-place-len-via-then-place-len+else-index-ticket w ↦ (w.index.result.now, w.index.ensures, w.if-index-ticket.false)
      | else-place-len-via-else-place-len w ↦ absurd (omega (arith, lt, c.len.ensures, w.if-place-len.false))
    ]) in
    sym (ap (λ rings. c.args.rings.now.items ++ rings) none.0 ∙ append-nil c.args.rings.now.items)

pub returns-else-place-len-clause-bells : goal.returns-else-place-len-clause-bells
returns-else-place-len-clause-bells g c =
    let between = rw (c.deref.ensures.value) at c.find_bell-place.ensures.between in
    sym (absent c.args.ticket c.args.bells.now.items c.find_bell-place.result between.0 between.1 c.requires.rising (λ lt. elim c.else-place-len.branch [
      | else-place-len-via-then-place-len+else-index-ticket w ↦ (w.index.result.now, w.index.ensures, w.if-index-ticket.false)
      | else-place-len-via-else-place-len w ↦ absurd (omega (arith, lt, c.len.ensures, w.if-place-len.false))
    ])).1
