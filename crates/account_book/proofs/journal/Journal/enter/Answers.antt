use Rattle.std.proofs.Common.{◌≡◌, length, reverse, sym, ap, ◌∙◌, List, le_refl, arith}
use Rattle.std.proofs.lemmas.Grind.{common_steps}
use Rattle.std.proofs.lemmas.List.{reverse-reverse, length-reverse}
use Rattle.std.specs.Arc.{arc_value}
use Rattle.call_types.specs.declared.call.Entry.{Entry}
use Rattle.call_model.specs.Answers.{answers}
use Rattle.call_model.specs.Next.{entry_of, entered}
use Rattle.call_model.proofs.Once.{fresh}
use Rattle.account_book.specs.Taking.{request_counts}
use Rattle.account_book.proofs.EntryExtent.{tickets_within, few_answers}
use Rattle.account_book.proofs.journal.Journal.enter.Goals as goal

counted : (c : goal.After-answer_call-arg-2-1)
    → c.deref-2.result.now ≡ request_counts c.deref-3.result.now (entered c.deref-3.result.now (reverse c.entries-entries.result.now.0) c.args.moment c.args.call)
counted c = grind (arith, common_steps)

pub answer_call-requires-clause-arriving : goal.answer_call-requires-clause-arriving
answer_call-requires-clause-arriving c = record {
  moment = c.requires.moment;
  short =
      rw (c.entries-entries.ensures.value, length-reverse c.self.inside.ledger.history)
      (omega (arith, c.entries-entries.ensures.room, rw (sym c.self.view_is) at c.requires.room));
  ticket = c.len.ensures;
  ready = record {
    legal = rw (c.deref-3.ensures, ap reverse c.entries-entries.ensures.value ∙ reverse-reverse c.self.inside.ledger.history) c.self.invariant.legal;
    all_known = rw (c.deref-3.ensures, ap reverse c.entries-entries.ensures.value ∙ reverse-reverse c.self.inside.ledger.history) c.self.invariant.all_known;
    follows =
        rw
        (c.deref-3.ensures, ap reverse c.entries-entries.ensures.value ∙ reverse-reverse c.self.inside.ledger.history)
        (rw (sym c.self.view_is) at c.requires.follows);
    known = rw c.deref-3.ensures (rw (sym c.self.view_is) at c.requires.known);
    placed =
        rw
        (c.deref-3.ensures, ap reverse c.entries-entries.ensures.value ∙ reverse-reverse c.self.inside.ledger.history)
        (rw (sym c.self.view_is) at c.requires.placed);
    is = rw (c.deref-3.ensures, ap reverse c.entries-entries.ensures.value ∙ reverse-reverse c.self.inside.ledger.history) c.self.invariant.sites_are;
    pool_is = rw (c.deref-3.ensures, ap reverse c.entries-entries.ensures.value ∙ reverse-reverse c.self.inside.ledger.history) c.self.invariant.pool_is;
  };
  counts = counted c;
  room = rw c.deref-3.ensures (rw (sym c.self.view_is) at c.requires.answers);
  empty = c.requires.empty;
}

pub answer_call-requires-clause-own : goal.answer_call-requires-clause-own
answer_call-requires-clause-own c =
    rw (c.deref-3.ensures, ap reverse c.entries-entries.ensures.value ∙ reverse-reverse c.self.inside.ledger.history)
    (rw (sym c.self.view_is) at c.requires.own)

pub add-requires-clause-fresh : goal.add-requires-clause-fresh
add-requires-clause-fresh c =
    fresh (arc_value c.self.inside.config) c.self.inside.ledger.history
    (length c.self.inside.ledger.history) c.self.invariant.legal (le_refl (length c.self.inside.ledger.history))

pub add-requires-clause-tickets : goal.add-requires-clause-tickets
add-requires-clause-tickets c =
    let given : c.copy_out.result ≡ answers (arc_value c.self.inside.config) c.self.inside.ledger.history c.args.moment c.args.call = c.copy_out.ensures ∙ (rw c.deref-3.ensures at c.answer_call.ensures.answers) ∙ ap (λ (h : List Entry). answers (arc_value c.self.inside.config) h c.args.moment c.args.call) (ap reverse c.entries-entries.ensures.value ∙ reverse-reverse c.self.inside.ledger.history) in
    rw given
    (tickets_within (arc_value c.self.inside.config) c.self.inside.ledger.history (entry_of (arc_value c.self.inside.config) c.self.inside.ledger.history c.args.moment c.args.call) (rw (sym c.self.view_is) at c.requires.follows))

pub add-requires-clause-few : goal.add-requires-clause-few
add-requires-clause-few c =
    let given : c.copy_out.result ≡ answers (arc_value c.self.inside.config) c.self.inside.ledger.history c.args.moment c.args.call = c.copy_out.ensures ∙ (rw c.deref-3.ensures at c.answer_call.ensures.answers) ∙ ap (λ (h : List Entry). answers (arc_value c.self.inside.config) h c.args.moment c.args.call) (ap reverse c.entries-entries.ensures.value ∙ reverse-reverse c.self.inside.ledger.history) in
    rw given
    (few_answers (arc_value c.self.inside.config) c.self.inside.ledger.history (entry_of (arc_value c.self.inside.config) c.self.inside.ledger.history c.args.moment c.args.call) c.self.invariant.sound c.self.invariant.legal (rw (sym c.self.view_is) at c.requires.follows) c.self.invariant.all_known (rw (sym c.self.view_is) at c.requires.known))
