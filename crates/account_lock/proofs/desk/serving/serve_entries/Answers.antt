use Rattle.std.proofs.Common.{◌≡◌, ◌+◌, ◌++◌, drop, length, sym, ap, ◌∙◌, subst, append_assoc, length-append, arith}
use Rattle.usage_ledger.specs.Keeping.{Steps}
use Rattle.usage_ledger.specs.Tallies.{Held}
use Rattle.account_lock.specs.Bells.{rings_of, bells_after, answers_of}
use Rattle.account_lock.proofs.Turns.{turn, Steps-append, rings_of-append, bells_after-append}
use Rattle.account_lock.proofs.desk.serving.serve_entries.Goals as goal

-- the answers of the entry come before those of the rest
pub loop-number-preserved : goal.loop-number-preserved
loop-number-preserved g c =
    let inv = c.loop-number.invariant in
    let e = c.at.result.now in
    let rest = answers_of (drop (c.loop-number.number + 1) c.args.entries.now.0) in
    let given = c.as_slice.result.now in
    let split : answers_of (drop c.loop-number.number c.args.entries.now.0) ≡ given ++ rest =
    turn c.args.entries.now.0 c.loop-number.number e (omega arith) (c.at.ensures c.at.result.now) ∙ ap (λ xs. xs ++ rest) (sym c.as_slice.ensures) in
    let bells = c.loop-number.bells.items in
    let became = c.serve_answers.ensures.bells in
    let one_rings = ap (λ xs. rings_of xs bells) split ∙ rings_of-append given rest bells in
    let one_bells = ap (λ xs. bells_after xs bells) split ∙ bells_after-append given rest bells in
    record {
      rings =
          ap (λ r. r ++ rings_of rest c.serve_answers.new.bells.items) c.serve_answers.ensures.rings
          ∙ append_assoc c.loop-number.rings.items (rings_of given bells) (rings_of rest c.serve_answers.new.bells.items)
          ∙ ap (λ x. c.loop-number.rings.items ++ (rings_of given bells ++ rings_of rest x)) became
          ∙ ap (λ x. c.loop-number.rings.items ++ x) (sym one_rings) ∙ inv.rings;
      bells = ap (bells_after rest) became ∙ sym one_bells ∙ inv.bells;
      rising = c.serve_answers.ensures.rising;
      room = omega (arith, ap length split, length-append given rest, inv.room, c.serve_answers.ensures.room.0, c.serve_answers.ensures.room.1);
      kept =
          λ k s. inv.kept k (subst (λ xs. Steps g.K.Keep.notes c.loop-number.tally.held.kept xs k) (sym split) (Steps-append g.K.Keep.notes given rest _ _ k c.serve_answers.ensures.kept s));
      same = c.serve_answers.ensures.same ∙ ap (λ (s : Held). record s { kept = c.serve_answers.new.tally.held.kept }) inv.same;
      calls = omega (arith, inv.calls, c.serve_answers.ensures.calls);
      notes = omega (arith, ap length split, length-append given rest, inv.notes, c.serve_answers.ensures.notes);
    }

-- the tally has room for the answers of the entry, among those of the rest
pub serve_answers-requires-clause-notes : goal.serve_answers-requires-clause-notes
serve_answers-requires-clause-notes g c =
    let entries = c.args.entries.now.0 in
    let rest = answers_of (drop (c.loop-number.number + 1) entries) in
    let split = turn entries c.loop-number.number c.at.result.now (omega arith) (c.at.ensures c.at.result.now) in
    omega (arith, ap length split, length-append c.at.result.now.answers rest, c.loop-number.invariant.notes, ap length c.as_slice.ensures)

-- and the rings too
pub serve_answers-requires-clause-room : goal.serve_answers-requires-clause-room
serve_answers-requires-clause-room g c =
    let entries = c.args.entries.now.0 in
    let rest = answers_of (drop (c.loop-number.number + 1) entries) in
    let split = turn entries c.loop-number.number c.at.result.now (omega arith) (c.at.ensures c.at.result.now) in
    omega (arith, ap length split, length-append c.at.result.now.answers rest, c.loop-number.invariant.room, ap length c.as_slice.ensures)
