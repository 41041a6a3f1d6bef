-- A replay of the text of a history makes that history again.
use Rattle.std.proofs.Common.{◌≡◌, ℕ, ◌+◌, ◌%◌, ◌<◌, ◌≤◌, ◌^◌, true, false, ◌==◌, List, [], ◌∷◌, ◌++◌, length, decimal, None, Ok, sym, ap, subst, ◌∙◌, arith}
use Rattle.std.proofs.lemmas.Bool.Decides.{nat_tests}
use Rattle.std.proofs.lemmas.Fmt.{decimal_by_steps}
use Rattle.std.proofs.lemmas.List.{append-nil}
use Rattle.std.proofs.Math.Nat.{max-le}
use Rattle.arn_ids.specs.Faults.{first_fault}
use Rattle.arn_ids.specs.declared.config.Config.{Config}
use Rattle.call_types.specs.declared.call.Call.{Call}
use Rattle.call_types.specs.declared.call.Entry.{Entry}
use Rattle.call_model.specs.Counts.{full}
use Rattle.call_model.specs.Next.{IsLegal, due, entry_of, expiries, moment_at, last_moment, added, next}
use Rattle.script.specs.CallText.{call_text}
use Rattle.call_types.specs.Within.{IsWithin}
use Rattle.arn_ids.specs.Limits.{greatest_moment}
use Rattle.script.proofs.LineBounds.{HasShortBodies, call_line_fits}
use Rattle.script.proofs.ReadAgain.{no_mark, read_again}
use Rattle.account_book.specs.Book.{Kept}
use Rattle.account_book.specs.HistoryText.{answers_text}
use Rattle.account_book.specs.Reached.{IsTakenAfter, led_to, AreTaken}
use Rattle.account_book.specs.Run.{Progress, Taking, is_skipped, added_lines, call_answered, going_on, line_answered, line_taken}
use Rattle.account_book.proofs.AnswersStay.{answers_added}
use Rattle.account_book.proofs.GoingOn.{Leads, leads_nowhere, leads_on, leads_line, leads_past, within_limit}
use Rattle.account_book.proofs.HistoryLines.{comments, entry_lines, entries_lines, comments_skipped, expiry_skipped}
use Rattle.account_book.proofs.Reaching.{AreExpiries, are_expiries, legal, early, added_again}

-- ---- the line of a call

-- the first byte isn't that of a comment
abbrev BeginsCall : List ℕ → Type 0
BeginsCall [] = ⊥
BeginsCall (b ∷ bs) = (b == 35) ≡ false

begins_on : (text more : List ℕ) → BeginsCall text → BeginsCall (text ++ more)
begins_on [] more h = absurd h
begins_on (b ∷ bs) more h = h

begins_decimal : (n : ℕ) → n < 2 ^ 64 → BeginsCall (decimal n)
begins_decimal n small =
    decimal_by_steps (λ _ ds. BeginsCall ds) (λ d le. grind (arith, nat_tests)) (λ m ds big begins. begins_on ds ((48 + m % 10) ∷ []) begins) n small

not_skipped : (text : List ℕ) → BeginsCall text → is_skipped text ≡ false
not_skipped [] h = absurd h
not_skipped (b ∷ bs) h = h

call_not_skipped : (config : Config) (m : ℕ) (call : Call) → m ≤ greatest_moment → IsWithin config call → is_skipped (call_text config m call) ≡ false
unfolding call_text
call_not_skipped config m call small within =
    rw (no_mark config call within) (not_skipped _ (begins_on (decimal m) _ (begins_decimal m (omega (arith, small)))))

-- ---- what a book makes of it

-- a book with a history
abbrev pub book_with : Config → ℕ → ℕ → List Entry → Kept
book_with config salt max_entries h = record { config = config; salt = salt; max_entries = max_entries; history = h }

answered_is : (config : Config) (salt max_entries : ℕ) (h : List Entry) (now : ℕ) (call : Call) → full config max_entries h call ≡ false
    → call_answered (book_with config salt max_entries h) (moment_at h now) call ≡ (book_with config salt max_entries (next config h now call), added_lines salt h (added config h now call))
unfolding call_answered next
answered_is config salt max_entries h now call room =
    rw room (ap (λ (new : List Entry). (book_with config salt max_entries (new ++ h), added_lines salt h new)) (added_again config h now call))

line_taken_is : (config : Config) (salt max_entries : ℕ) (h : List Entry) (now : ℕ) (call : Call)
    → first_fault config ≡ None → last_moment h ≤ greatest_moment → IsTakenAfter config max_entries h now call
    → (number : ℕ)
    → line_taken number (Taking true (book_with config salt max_entries h)) (call_text config (moment_at h now) call)
    ≡ Ok (Taking true (book_with config salt max_entries (next config h now call)), added_lines salt h (added config h now call))
unfolding line_answered
line_taken_is config salt max_entries h now call sound old t number =
    let small : moment_at h now ≤ greatest_moment = max-le t.timed.0 old in
    let limit = within_limit (call_text config (moment_at h now) call) (call_line_fits config (moment_at h now) call sound t.timed.1) in
    rw (limit, call_not_skipped config (moment_at h now) call small t.timed.1, read_again config (moment_at h now) call sound small t.timed.1 t.bytes)
    (ap (λ (r : Kept × List ℕ). going_on true (Ok r)) (answered_is config salt max_entries h now call t.room))

-- ---- what it makes of all lines

skips_expiries : (config : Config) (salt : ℕ) (all es h : List Entry) (first : Progress) (book : Kept) (text : List ℕ) → AreExpiries es → HasShortBodies all
    → Leads (entries_lines config salt all h) first (Taking true book) text → Leads (entries_lines config salt all (es ++ h)) first (Taking true book) text
skips_expiries config salt all [] h first book text x short p = p
skips_expiries config salt all (entry ∷ es) h first book text x short p =
    subst (Leads (entries_lines config salt all (entry ∷ (es ++ h))) first (Taking true book)) (append-nil text)
    (leads_on (entries_lines config salt all (es ++ h)) (entry_lines config salt all (length (es ++ h)) entry) first (Taking true book) (Taking true book) text []
    (skips_expiries config salt all es h first book text x.1 short p)
    (leads_past true book (entry_lines config salt all (length (es ++ h)) entry) (expiry_skipped config salt all (length (es ++ h)) entry x.0.0 x.0.1 short)))

-- one call more
one_more : (config : Config) (salt max_entries : ℕ) (all h : List Entry) (now : ℕ) (call : Call)
    → first_fault config ≡ None → HasShortBodies all → IsLegal config h → last_moment h ≤ greatest_moment
    → IsTakenAfter config max_entries h now call
    → Leads (entries_lines config salt all h) (Taking true (book_with config salt max_entries [])) (Taking true (book_with config salt max_entries h)) (answers_text salt h)
    → Leads (entries_lines config salt all (next config h now call)) (Taking true (book_with config salt max_entries [])) (Taking true (book_with config salt max_entries (next config h now call))) (answers_text salt (next config h now call))
unfolding next added
one_more config salt max_entries all h now call sound short lawful old t p =
    let m = moment_at h now in
    let es = expiries config m (due config h m) h in
    let entry = entry_of config (es ++ h) m call in
    let first = Taking true (book_with config salt max_entries []) in
    let before = Taking true (book_with config salt max_entries h) in
    let after = book_with config salt max_entries (next config h now call) in
    let lines_added = added_lines salt h (added config h now call) in
    let text : answers_text salt h ++ (lines_added ++ []) ≡ answers_text salt (next config h now call) =
    ap (λ (x : List ℕ). answers_text salt h ++ x) (append-nil lines_added) ∙ sym (answers_added config salt (added config h now call) h lawful) in
    subst (Leads (entries_lines config salt all (next config h now call)) first (Taking true after)) text
    (leads_on (entries_lines config salt all (es ++ h)) (entry_lines config salt all (length (es ++ h)) entry) first before (Taking true after) (answers_text salt h) (lines_added ++ [])
    (skips_expiries config salt all es h first (book_with config salt max_entries h) (answers_text salt h) (are_expiries config m (due config h m) h) short p)
    (leads_on (call_text config m call ∷ []) (comments salt all (length (es ++ h)) entry.answers) before (Taking true after) (Taking true after) lines_added []
    (leads_line (call_text config m call) before (Taking true after) lines_added (line_taken_is config salt max_entries h now call sound old t))
    (leads_past true after (comments salt all (length (es ++ h)) entry.answers) (comments_skipped salt all (length (es ++ h)) entry.answers short))))

pub leads_again : (config : Config) (salt max_entries : ℕ) (all : List Entry) (calls : List (ℕ × Call))
    → first_fault config ≡ None → HasShortBodies all → AreTaken config max_entries calls
    → Leads (entries_lines config salt all (led_to config calls)) (Taking true (book_with config salt max_entries [])) (Taking true (book_with config salt max_entries (led_to config calls))) (answers_text salt (led_to config calls))
leads_again config salt max_entries all [] sound short taken = leads_nowhere (Taking true (book_with config salt max_entries []))
leads_again config salt max_entries all (c ∷ calls) sound short taken =
    one_more config salt max_entries all (led_to config calls) c.0 c.1 sound short
    (legal config max_entries calls taken.0) (early config max_entries calls taken.0) taken.1
    (leads_again config salt max_entries all calls sound short taken.0)
