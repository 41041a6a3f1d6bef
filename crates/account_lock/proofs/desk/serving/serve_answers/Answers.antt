use Rattle.std.proofs.Common.{◌++◌, sym, ap, ◌∙◌, subst, append_assoc, arith}
use Rattle.std.proofs.lemmas.List.{at_drop_more}
use Rattle.usage_ledger.specs.Keeping.{Steps}
use Rattle.usage_ledger.specs.Tallies.{Held}
use Rattle.account_lock.specs.Bells.{rings_of, bells_after}
use Rattle.account_lock.proofs.desk.serving.serve_answers.Goals as goal

-- the answer comes before the rest
pub loop-pair-preserved : goal.loop-pair-preserved
loop-pair-preserved g c =
    let inv = c.loop-pair.invariant in
    let answers = c.args.answers.now in
    let bells = c.loop-pair.bells.items in
    let lt = c.loop-pair-test.true in
    let note = c.note.ensures in
    record {
      rings =
          rw (c.take_bell.ensures.rings, c.take_bell.ensures.bells)
          (append_assoc c.loop-pair.rings.items _ _ ∙ sym (at_drop_more (λ xs. c.loop-pair.rings.items ++ rings_of xs bells) answers c.loop-pair.pair-index _ lt) ∙ inv.rings);
      bells = rw c.take_bell.ensures.bells (sym (at_drop_more (λ xs. bells_after xs bells) answers c.loop-pair.pair-index _ lt) ∙ inv.bells);
      rising = c.take_bell.ensures.rising;
      room = omega (arith, inv.room, c.take_bell.ensures.room.0);
      capacity = c.take_bell.ensures.room.1 ∙ inv.capacity;
      kept =
          λ k s. inv.kept k (subst (λ xs. Steps g.K.Keep.notes c.loop-pair.tally.held.kept xs k) (sym (at_drop_more (λ xs. xs) answers c.loop-pair.pair-index _ lt)) (c.note.new.self.held.kept, note.kept, s));
      same = note.same ∙ ap (λ (s : Held). record s { kept = c.note.new.self.held.kept }) inv.same;
      calls = omega (arith, inv.calls, note.calls);
      notes = omega (arith, inv.notes, note.left);
      left = omega (arith, inv.left, note.left);
    }
