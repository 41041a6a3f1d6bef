use Rattle.std.proofs.Common.{◌≡◌, ◌++◌, ◌∙◌, List, ℕ, sym, ap, length, Result, Ok, Err, OnOk, is_ok, if◌then◌else◌}
use Rattle.std.proofs.lemmas.List.{length-reverse}
use Rattle.std.proofs.lemmas.Result.{on_ok_weaker}
use Rattle.account_book.specs.Book.{Kept}
use Rattle.account_book.specs.Run.{call_answered}
use Rattle.script_replay.proofs.AddedEntries.{next_longer, lines_answered, not_true}
use Rattle.script_replay.proofs.book.answer.Goals as goal

-- bytes that grow at Ok alone
grown_ok : {E : Type 0} (r : Result (Unit {0}) E) (new grown kept : List ℕ) → new ≡ (if is_ok r then grown else kept) → OnOk r (new ≡ grown)
grown_ok (Ok done) new grown kept is = is
grown_ok (Err e) new grown kept is = tt

pub push_from-requires : goal.push_from-requires
push_from-requires c =
    let is = ap (λ (b : Kept). b.history) c.in-Ok.ensures.step in
    record { there = rw (c.len-before.ensures, c.entries.ensures, length-reverse, is) (next_longer _ _ _ _) }

pub returns-in-Ok-clause-text : goal.returns-in-Ok-clause-text
returns-in-Ok-clause-text c =
    let free = not_true _ (λ yes. let never = sym c.in-Ok.is ∙ c.apply.ensures.full.1 yes in cc) in
    let before = c.len-before.ensures ∙ ap length c.entries.ensures ∙ length-reverse _ in
    on_ok_weaker c.push_from.result
    (λ wrote. wrote ∙ ap (λ (text : List ℕ). c.args.out.now.items ++ text) (lines_answered _ _ _ _ _ free c.in-Ok.ensures.step before)) c.push_from.ensures

pub returns-in-Err-JournalFull-clause-text : goal.returns-in-Err-JournalFull-clause-text
unfolding call_answered
returns-in-Err-JournalFull-clause-text c =
    let full = c.in-Err-JournalFull.ensures.full.0 (ap Err c.in-Err-JournalFull.field-0-is) in
    rw full (grown_ok c.extend_from_slice.result _ _ _ c.extend_from_slice.ensures.items)
