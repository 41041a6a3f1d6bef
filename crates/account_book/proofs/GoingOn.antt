-- How a replay goes on over lines, from one book to the next.
use Rattle.std.proofs.Common.{◌≡◌, ℕ, ◌+◌, Bool, true, false, nat_lt, List, [], ◌∷◌, ◌++◌, length, Result, Ok, refl}
use Rattle.std.proofs.Common.{sym, ap, ◌∙◌, arith, append_assoc, length-append}
use Rattle.std.proofs.lemmas.Bool.Decides.{nat_tests}
use Rattle.script.proofs.WordBounds.{Fits}
use Rattle.account_book.specs.Book.{Kept}
use Rattle.account_book.specs.Run.{ScriptFault, Progress, Taking, Replayed, before, and_then, line_limit, is_skipped, line_answered, line_taken, replay_from}
use Rattle.account_book.proofs.HistoryLines.{AreSkipped}

-- lines lead a replay from one place to the next, and write a text, whatever comes after them
abbrev pub Leads : List (List ℕ) → Progress → Progress → List ℕ → Type 0
Leads lines first next text =
    (number : ℕ) (more : List (List ℕ)) → replay_from number first (lines ++ more) ≡ before text (replay_from (number + length lines) next more)

pub leads_nowhere : (first : Progress) → Leads [] first first []
leads_nowhere first number more = let same : number + 0 ≡ number = omega arith in rw same refl

pub leads_on : (xs ys : List (List ℕ)) (a b c : Progress) (s t : List ℕ) → Leads xs a b s → Leads ys b c t → Leads (xs ++ ys) a c (s ++ t)
leads_on xs ys a b c s t p q number more =
    let last : (number + length xs) + length ys ≡ number + length (xs ++ ys) = omega (arith, length-append xs ys) in
    ap (replay_from number a) (append_assoc xs ys more) ∙ p number (ys ++ more) ∙ ap (before s) (q (number + length xs) more)
    ∙ together s t (replay_from ((number + length xs) + length ys) c more) ∙ ap (λ (k : ℕ). before (s ++ t) (replay_from k c more)) last
  where
    together : (x y : List ℕ) (r : Replayed) → before x (before y r) ≡ before (x ++ y) r
    together x y r = ap (λ (u : List ℕ). record { text = u; fault = r.fault }) (sym (append_assoc x y r.text))

-- one line
pub leads_line : (line : List ℕ) (first next : Progress) (text : List ℕ)
    → ((number : ℕ) → line_taken number first line ≡ Ok (next, text)) → Leads (line ∷ []) first next text
leads_line line first next text taken number more =
    ap (λ (r : Result (Progress × List ℕ) ScriptFault). and_then r (λ (p : Progress). replay_from (number + 1) p more)) (taken number)

pub within_limit : (line : List ℕ) → Fits 20000000 line → nat_lt line_limit (length line) ≡ false
within_limit line f = let short = f.short in grind (arith, nat_tests)

skipped_taken : (reserves : Bool) (book : Kept) (line : List ℕ) → Fits 20000000 line → is_skipped line ≡ true
    → (number : ℕ) → line_taken number (Taking reserves book) line ≡ Ok (Taking reserves book, [])
unfolding line_answered
skipped_taken reserves book line fits skipped number = rw (within_limit line fits, skipped) refl

pub leads_past : (reserves : Bool) (book : Kept) (ls : List (List ℕ)) → AreSkipped ls → Leads ls (Taking reserves book) (Taking reserves book) []
leads_past reserves book [] h = leads_nowhere (Taking reserves book)
leads_past reserves book (line ∷ ls) h =
    leads_on (line ∷ []) ls (Taking reserves book) (Taking reserves book) (Taking reserves book) [] []
    (leads_line line (Taking reserves book) (Taking reserves book) [] (skipped_taken reserves book line h.0.0 h.0.1))
    (leads_past reserves book ls h.1)
