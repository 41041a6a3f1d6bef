-- The entries that a call adds to a history, and their lines.
use Rattle.std.proofs.Common.{◌≡◌, ℕ, suc, ◌+◌, ◌<◌, ◌≤◌, Bool, true, false, List, [], ◌∷◌, ◌++◌, length, reverse, drop}
use Rattle.std.proofs.Common.{get_or, refl, sym, ap, ◌∙◌, arith, append_assoc, length-append}
use Rattle.std.proofs.lemmas.List.{length-reverse, reverse-append}
use Rattle.std.proofs.Math.Seq.{drop-append_seam, drop-cons}
use Rattle.arn_ids.specs.declared.config.Config.{Config}
use Rattle.call_types.specs.declared.call.Call.{Call}
use Rattle.call_types.specs.declared.call.Entry.{Entry}
use Rattle.call_model.specs.Counts.{full}
use Rattle.call_model.specs.Next.{next, added}
use Rattle.script.specs.AnswerText.{answer_lines}
use Rattle.account_book.specs.Book.{Kept}
use Rattle.account_book.specs.Run.{call_answered, lines_from, added_lines}

pub next_added : (config : Config) (h : List Entry) (now : ℕ) (call : Call) → next config h now call ≡ added config h now call ++ h
unfolding next
next_added config h now call = refl

pub next_longer : (config : Config) (h : List Entry) (now : ℕ) (call : Call) → length h ≤ length (next config h now call)
next_longer config h now call = rw (next_added config h now call, length-append (added config h now call) h) (omega arith)

-- the entries of a history from those on that it had before
pub lines_added : (salt : ℕ) (h new : List Entry) (before : ℕ) → before ≡ length h
    → lines_from salt (new ++ h) before (drop before (reverse (new ++ h))) ≡ added_lines salt h new
lines_added salt h new before is =
    let length_is : before ≡ length (reverse h) = is ∙ sym (length-reverse h) in
    let behind : drop before (reverse (new ++ h)) ≡ reverse new =
    ap (drop before) (reverse-append new h) ∙ ap (λ (n : ℕ). drop n (reverse h ++ reverse new)) length_is ∙ drop-append_seam (reverse h) (reverse new) in
    rw (behind, is) refl

step_at : (salt : ℕ) (h entries : List Entry) (number : ℕ) (out new : List ℕ) (d : Entry) → number < length entries
    → new ≡ out ++ answer_lines salt h number (get_or entries number d)
    → new ++ lines_from salt h (number + 1) (drop (number + 1) entries) ≡ out ++ lines_from salt h number (drop number entries)
step_at salt h entries number out new d within is =
    let next : suc number ≡ number + 1 = omega arith in
    let here : drop number entries ≡ get_or entries number d ∷ drop (number + 1) entries = drop-cons entries number d within ∙ ap (λ (n : ℕ). get_or entries number d ∷ drop n entries) next in
    rw (is, here) (append_assoc out (answer_lines salt h number (get_or entries number d)) _)

-- one entry more
pub lines_step : (salt : ℕ) (h entries : List Entry) (number : ℕ) (out new : List ℕ) → number < length entries
    → ((d : Entry) → new ≡ out ++ answer_lines salt h number (get_or entries number d))
    → new ++ lines_from salt h (number + 1) (drop (number + 1) entries) ≡ out ++ lines_from salt h number (drop number entries)
lines_step salt h [] number out new within is = absurd (omega arith)
lines_step salt h (entry ∷ entries) number out new within is = step_at salt h (entry ∷ entries) number out new entry within (is entry)

-- what a call writes is the lines of the entries behind those before it
pub lines_answered : (book after : Kept) (now : ℕ) (call : Call) (before : ℕ)
    → full book.config book.max_entries book.history call ≡ false
    → after ≡ record book { history = next book.config book.history now call }
    → before ≡ length book.history → lines_from after.salt after.history before (drop before (reverse after.history)) ≡ (call_answered book now call).1
unfolding call_answered
lines_answered book after now call before free is counted =
    rw (is, free, next_added book.config book.history now call) (lines_added book.salt book.history (added book.config book.history now call) before counted)

pub not_true : (b : Bool) → (b ≡ true → ⊥) → b ≡ false
not_true true h = absurd (h refl)
not_true false h = refl
