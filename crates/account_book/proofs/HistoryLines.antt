-- The text of a history is lines.
use Rattle.std.proofs.Common.{◌≡◌, ℕ, ◌≤◌, Bool, true, false, ◌==◌, List, [], ◌∷◌, ◌++◌, length, map, decimal, None}
use Rattle.std.proofs.Common.{refl, sym, ap, subst, ◌∙◌, arith, append_assoc, if◌then◌else◌}
use Rattle.std.specs.List.{flat_map}
use Rattle.std.proofs.lemmas.Bool.{leb-true}
use Rattle.arn_ids.specs.Faults.{first_fault}
use Rattle.arn_ids.specs.declared.config.Config.{Config}
use Rattle.call_types.specs.declared.answer.Answer.{Answer}
use Rattle.call_types.specs.declared.call.Call.{Call}
use Rattle.call_types.specs.declared.call.Call.TheVariants.{Invoke, RuntimeNext, Response, ResponseTooLarge, Failure}
use Rattle.call_types.specs.declared.call.Call.TheVariants.{InitFailure, Register, ExtNext, ExtInitFailure}
use Rattle.call_types.specs.declared.call.Call.TheVariants.{ExtExitFailure, Tick, Withdraw, Spindown, Stop, Expire}
use Rattle.call_types.specs.declared.call.Call.TheVariants.{Reserve}
use Rattle.call_types.specs.declared.call.Entry.{Entry}
use Rattle.call_model.specs.History.{call_of, is_expiry}
use Rattle.call_types.specs.Calls.{body_of}
use Rattle.script.specs.AnswerText.{answer_words, answer_line, comment_line, entry_text}
use Rattle.script.specs.CallText.{line_of, call_text}
use Rattle.call_types.specs.Within.{IsWithin}
use Rattle.script.proofs.WordBounds.{Fits}
use Rattle.script.proofs.LineBounds.{HasShortBodies, comment, comment_fits, call_line_fits, expiry_line_fits}
use Rattle.account_book.specs.HistoryText.{entries_text}
use Rattle.account_book.specs.Run.{is_skipped}
use Rattle.account_book.proofs.LineEnds.{ended, ended-append, AreLines, are_lines-append}

-- the answers of an entry, each as a comment
abbrev pub comments : ℕ → List Entry → ℕ → List (ℕ × Answer) → List (List ℕ)
comments salt h number answers = map (comment salt h number) answers

-- the lines of an entry
abbrev pub entry_lines : Config → ℕ → List Entry → ℕ → Entry → List (List ℕ)
entry_lines config salt h number entry = call_text config entry.moment entry.call ∷ comments salt h number entry.answers

-- the lines of entries, the oldest first
abbrev pub entries_lines : Config → ℕ → List Entry → List Entry → List (List ℕ)
entries_lines config salt h [] = []
entries_lines config salt h (entry ∷ older) = entries_lines config salt h older ++ entry_lines config salt h (length older) entry

comments_are : (salt : ℕ) (h : List Entry) (number : ℕ) (answers : List (ℕ × Answer))
    → flat_map (comment_line salt h number) answers ≡ ended (comments salt h number answers)
unfolding answer_line
comments_are salt h number [] = refl
comments_are salt h number (a ∷ answers) =
    let line = line_of (decimal number ∷ decimal a.0 ∷ answer_words salt h a.0 a.1) in
    ap (λ (t : List ℕ). comment_line salt h number a ++ t) (comments_are salt h number answers)
    ∙ ap (λ (t : List ℕ). 35 ∷ 32 ∷ t) (append_assoc line (10 ∷ []) (ended (comments salt h number answers)))

entry_is : (config : Config) (salt : ℕ) (h : List Entry) (number : ℕ) (entry : Entry)
    → entry_text config salt h number entry ≡ ended (entry_lines config salt h number entry)
unfolding entry_text
entry_is config salt h number entry = ap (λ (t : List ℕ). call_text config entry.moment entry.call ++ 10 ∷ t) (comments_are salt h number entry.answers)

pub entries_are : (config : Config) (salt : ℕ) (h older : List Entry) → entries_text config salt h older ≡ ended (entries_lines config salt h older)
entries_are config salt h [] = refl
entries_are config salt h (entry ∷ older) =
    ap (λ (t : List ℕ). t ++ entry_text config salt h (length older) entry) (entries_are config salt h older)
    ∙ ap (λ (t : List ℕ). ended (entries_lines config salt h older) ++ t) (entry_is config salt h (length older) entry)
    ∙ sym (ended-append (entries_lines config salt h older) (entry_lines config salt h (length older) entry))

-- ---- lines that a replay passes over

abbrev pub AreSkipped : List (List ℕ) → Type 0
AreSkipped [] = Unit {0}
AreSkipped (line ∷ lines) = (Fits 20000000 line × (is_skipped line ≡ true)) × AreSkipped lines

pub comments_skipped : (salt : ℕ) (h : List Entry) (number : ℕ) (answers : List (ℕ × Answer)) → HasShortBodies h → AreSkipped (comments salt h number answers)
comments_skipped salt h number [] short = tt
comments_skipped salt h number (a ∷ answers) short = ((comment_fits salt h number a short, refl), comments_skipped salt h number answers short)

skipped_lines : (ls : List (List ℕ)) → AreSkipped ls → AreLines ls
skipped_lines [] h = tt
skipped_lines (l ∷ ls) h = (h.0.0, skipped_lines ls h.1)

expiry_marked : (config : Config) (moment e : ℕ) → is_skipped (call_text config moment (Expire e)) ≡ true
unfolding call_text
expiry_marked config moment e = refl

pub expiry_skipped : (config : Config) (salt : ℕ) (h : List Entry) (number : ℕ) (entry : Entry) (e : ℕ)
    → entry.call ≡ Expire e → HasShortBodies h → AreSkipped (entry_lines config salt h number entry)
expiry_skipped config salt h number entry e is short =
    let text : call_text config entry.moment (Expire e) ≡ call_text config entry.moment entry.call = ap (call_text config entry.moment) (sym is) in
    let P : List ℕ → Type 0 = λ line. Fits 20000000 line × (is_skipped line ≡ true) in
    (subst P text (expiry_line_fits config entry.moment e, expiry_marked config entry.moment e), comments_skipped salt h number entry.answers short)

-- ---- the calls of a history

-- each entry is an expiry, or a call within the limits
abbrev pub IsHandedIn : Config → Entry → Type 0
IsHandedIn config entry = (is_expiry entry.call ≡ false) → IsWithin config entry.call

abbrev pub AreHandedIn : Config → List Entry → Type 0
AreHandedIn config [] = Unit {0}
AreHandedIn config (entry ∷ h) = IsHandedIn config entry × AreHandedIn config h

short_call : (config : Config) (call : Call) → (is_expiry call ≡ false → IsWithin config call) → length (body_of call) ≤ 6291456
short_call config (Invoke f qualified trace body) h = leb-true (length body) 6291456 (h refl).2
short_call config (Response e n body) h = leb-true (length body) 6291456 (h refl).2
short_call config (Failure e n body) h = leb-true (length body) 6291456 (h refl).2
short_call config (InitFailure e body) h = leb-true (length body) 6291456 (h refl).1
short_call config (ExtInitFailure e x body) h = leb-true (length body) 6291456 (h refl).2
short_call config (ExtExitFailure e x body) h = leb-true (length body) 6291456 (h refl).2
short_call config (RuntimeNext e) h = omega arith
short_call config (ResponseTooLarge e n) h = omega arith
short_call config (Register e name invoke shutdown account) h = omega arith
short_call config (ExtNext e x) h = omega arith
short_call config Tick h = omega arith
short_call config (Withdraw t) h = omega arith
short_call config (Spindown e) h = omega arith
short_call config Stop h = omega arith
short_call config (Expire e) h = omega arith
short_call config (Reserve f count) h = omega arith

pub short_bodies : (config : Config) (h : List Entry) → AreHandedIn config h → HasShortBodies h
short_bodies config [] all t = omega arith
short_bodies config (entry ∷ h) all t = go (t == length h) (short_bodies config h all.1 t)
  where
    go : (b : Bool) → length (body_of (call_of h t)) ≤ 6291456 → length (body_of (if b then entry.call else call_of h t)) ≤ 6291456
    go true older = short_call config entry.call all.0
    go false older = older

line_fits : (config : Config) (moment : ℕ) (call : Call) → first_fault config ≡ None
    → (is_expiry call ≡ false → IsWithin config call) → Fits 20000000 (call_text config moment call)
line_fits config moment (Expire e) sound h = expiry_line_fits config moment e
line_fits config moment (Invoke f qualified trace body) sound h = call_line_fits config moment _ sound (h refl)
line_fits config moment (RuntimeNext e) sound h = call_line_fits config moment _ sound (h refl)
line_fits config moment (Response e n body) sound h = call_line_fits config moment _ sound (h refl)
line_fits config moment (ResponseTooLarge e n) sound h = call_line_fits config moment _ sound (h refl)
line_fits config moment (Failure e n body) sound h = call_line_fits config moment _ sound (h refl)
line_fits config moment (InitFailure e body) sound h = call_line_fits config moment _ sound (h refl)
line_fits config moment (Register e name invoke shutdown account) sound h = call_line_fits config moment _ sound (h refl)
line_fits config moment (ExtNext e x) sound h = call_line_fits config moment _ sound (h refl)
line_fits config moment (ExtInitFailure e x body) sound h = call_line_fits config moment _ sound (h refl)
line_fits config moment (ExtExitFailure e x body) sound h = call_line_fits config moment _ sound (h refl)
line_fits config moment Tick sound h = call_line_fits config moment _ sound (h refl)
line_fits config moment (Withdraw t) sound h = call_line_fits config moment _ sound (h refl)
line_fits config moment (Spindown e) sound h = call_line_fits config moment _ sound (h refl)
line_fits config moment Stop sound h = call_line_fits config moment _ sound (h refl)
line_fits config moment (Reserve f count) sound h = call_line_fits config moment _ sound (h refl)

-- the lines of entries are lines
pub entries_lines_are : (config : Config) (salt : ℕ) (h older : List Entry) → first_fault config ≡ None
    → HasShortBodies h → AreHandedIn config older → AreLines (entries_lines config salt h older)
entries_lines_are config salt h [] sound short all = tt
entries_lines_are config salt h (entry ∷ older) sound short all =
    are_lines-append (entries_lines config salt h older) (entry_lines config salt h (length older) entry)
    (entries_lines_are config salt h older sound short all.1)
    (line_fits config entry.moment entry.call sound all.0, skipped_lines _ (comments_skipped salt h (length older) entry.answers short))
