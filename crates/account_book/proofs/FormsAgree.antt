-- A script of form 1 is replayed in form 2 as it is in form 1, up to its first fault.
use Rattle.std.proofs.Common.{◌≡◌, ℕ, ◌+◌, Bool, true, false, nat_lt, List, [], ◌∷◌, ◌++◌, length, codes, Option, Some}
use Rattle.std.proofs.Common.{None, Result, Ok, Err, if◌then◌else◌, refl, sym, ap, ◌∙◌, append_assoc}
use Rattle.std.proofs.lemmas.List.{append-nil}
use Rattle.std.specs.Str.Lines.{lines}
use Rattle.call_types.specs.declared.call.Call.{Call}
use Rattle.script.specs.Lines.{call_in}
use Rattle.script.proofs.FormsAgree.{call_same}
use Rattle.script.proofs.WordBounds.{fits_word}
use Rattle.account_book.specs.Book.{Kept}
use Rattle.account_book.specs.Run.{ScriptFault, InLine, AtStart, AfterForm, Taking, is_skipped, line_limit}
use Rattle.account_book.specs.Run.{begins_form_2, is_of_form_2, opened, answered_if, line_answered, going_on, started}
use Rattle.account_book.specs.Run.{Replayed, before, and_then, replay_from, run}
use Rattle.account_book.proofs.LineEnds.{lines_again}

-- what the second replay comes to, where the first has no fault; and before a fault of the first, what that writes
pub record GoesAsFar (first second : Replayed) : Type 0 where
  pub more : List ℕ
  pub front : second.text ≡ first.text ++ more
  pub same : first.fault ≡ None → second ≡ first

as_far : (r : Replayed) → GoesAsFar r r
as_far r = record { more = []; front = sym (append-nil r.text); same = λ none. refl }

at_fault : (fault : ScriptFault) (r : Replayed) → GoesAsFar (record { text = []; fault = Some fault }) r
at_fault fault r = record { more = r.text; front = refl; same = λ none. cc }

behind : (text : List ℕ) (a b : Replayed) → GoesAsFar a b → GoesAsFar (before text a) (before text b)
behind text a b g = record {
  more = g.more;
  front = ap (λ (t : List ℕ). text ++ t) g.front ∙ sym (append_assoc text a.text g.more);
  same = λ none. ap (before text) (g.same none);
}

call_if : (n m : ℕ) (book : Kept) (a b : Option (ℕ × Call)) (r : Kept × List ℕ)
    → ((x : ℕ × Call) → a ≡ Some x → b ≡ Some x) → answered_if n book a ≡ Ok r → answered_if m book b ≡ Ok r
call_if n m book None b r h e = cc
call_if n m book (Some (now, call)) b r h e = rw (h (now, call) refl) e

line_same : (n m : ℕ) (book : Kept) (line : List ℕ) (r : Kept × List ℕ) → line_answered false n book line ≡ Ok r → line_answered true m book line ≡ Ok r
unfolding line_answered
line_same n m book line r = go (nat_lt line_limit (length line)) (is_skipped line)
  where
    go : (long skipped : Bool)
        → (if long then Err (InLine n) else if skipped then Ok (book, []) else answered_if n book (call_in false book.config line)) ≡ Ok r
        → (if long then Err (InLine m) else if skipped then Ok (book, []) else answered_if m book (call_in true book.config line)) ≡ Ok r
    go true s e = cc
    go false true e = e
    go false false e = call_if n m book (call_in false book.config line) (call_in true book.config line) r (call_same book.config line) e

agree : (n m : ℕ) (book : Kept) (ls : List (List ℕ)) → GoesAsFar (replay_from n (Taking false book) ls) (replay_from m (Taking true book) ls)
agree n m book [] = as_far (record { text = []; fault = None })
agree n m book (line ∷ ls) = go (line_answered false n book line) refl (λ next. agree (n + 1) (m + 1) next ls)
  where
    go : (r : Result (Kept × List ℕ) ScriptFault) → line_answered false n book line ≡ r
        → ((next : Kept) → GoesAsFar (replay_from (n + 1) (Taking false next) ls) (replay_from (m + 1) (Taking true next) ls))
        → GoesAsFar (and_then (going_on false r) (λ p. replay_from (n + 1) p ls)) (replay_from m (Taking true book) (line ∷ ls))
    go (Err fault) e rest = at_fault fault (replay_from m (Taking true book) (line ∷ ls))
    go (Ok (next, text)) e rest =
        rw (line_same n m book line (next, text) e)
        (behind text (replay_from (n + 1) (Taking false next) ls) (replay_from (m + 1) (Taking true next) ls) (rest next))

-- behind the first line
agree_first : (ls : List (List ℕ)) → begins_form_2 ls ≡ false → GoesAsFar (replay_from 1 AtStart ls) (replay_from 2 AfterForm ls)
agree_first [] other = at_fault _ _
agree_first (line ∷ ls) other = rw other (go (opened line))
  where
    go : (r : Result Kept ScriptFault) → GoesAsFar (and_then (started false r) (λ p. replay_from 2 p ls)) (and_then (started true r) (λ p. replay_from 3 p ls))
    go (Err fault) = as_far (record { text = []; fault = Some fault })
    go (Ok book) = behind [] (replay_from 2 (Taking false book) ls) (replay_from 3 (Taking true book) ls) (agree 2 3 book ls)

pub forms_agree : (input : List ℕ) → is_of_form_2 input ≡ false → GoesAsFar (run input) (run (codes "form 2\n" ++ input))
forms_agree input other =
    let cut : lines (codes "form 2\n" ++ input) ≡ codes "form 2" ∷ lines input = lines_again (codes "form 2" ∷ []) input (fits_word 20000000 (codes "form 2") refl, tt) in
    rw cut (agree_first (lines input) other)
