-- All answer lines of a history, as calls add to it.
use Rattle.std.proofs.Common.{◌≡◌, ℕ, ◌+◌, ◌≤◌, List, [], ◌∷◌, ◌++◌, length, reverse, refl, sym, ap, ◌∙◌, arith, append_assoc, length-append}
use Rattle.std.proofs.lemmas.List.{append-nil, length-reverse, reverse-append}
use Rattle.arn_ids.specs.declared.config.Config.{Config}
use Rattle.call_types.specs.declared.call.Entry.{Entry}
use Rattle.call_model.specs.Next.{IsLegal}
use Rattle.call_model.proofs.NamedTickets.{entry_bounded}
use Rattle.script.specs.AnswerText.{answer_lines}
use Rattle.script.proofs.StableLines.{answer_lines_old}
use Rattle.account_book.specs.HistoryText.{answers_from, answers_text}
use Rattle.account_book.specs.Run.{lines_from, added_lines}

-- one entry more changes no line before it
stays_one : (config : Config) (salt : ℕ) (e : Entry) (h older : List Entry) → IsLegal config older
    → length older ≤ length h → answers_from salt (e ∷ h) older ≡ answers_from salt h older
stays_one config salt e h [] l le = refl
stays_one config salt e h (entry ∷ older) l le =
    ap (λ (t : List ℕ). t ++ answer_lines salt (e ∷ h) (length older) entry) (stays_one config salt e h older l.0 (omega (arith, le)))
    ∙ ap (λ (t : List ℕ). answers_from salt h older ++ t)
    (answer_lines_old salt e h (length older) (length older) entry (entry_bounded config older entry l) (omega (arith, le)))

stays : (config : Config) (salt : ℕ) (new h older : List Entry) → IsLegal config older → length older ≤ length h
    → answers_from salt (new ++ h) older ≡ answers_from salt h older
stays config salt [] h older l le = refl
stays config salt (e ∷ new) h older l le =
    stays_one config salt e (new ++ h) older l (omega (arith, le, length-append new h)) ∙ stays config salt new h older l le

lines-append : (salt : ℕ) (h : List Entry) (number : ℕ) (xs ys : List Entry)
    → lines_from salt h number (xs ++ ys) ≡ lines_from salt h number xs ++ lines_from salt h (number + length xs) ys
lines-append salt h number [] ys = let same : number + 0 ≡ number = omega arith in ap (λ (n : ℕ). lines_from salt h n ys) (sym same)
lines-append salt h number (x ∷ xs) ys =
    let next : (number + 1) + length xs ≡ number + length (x ∷ xs) = omega arith in
    ap (λ (t : List ℕ). answer_lines salt h number x ++ t)
    (lines-append salt h (number + 1) xs ys ∙ ap (λ (n : ℕ). lines_from salt h (number + 1) xs ++ lines_from salt h n ys) next)
    ∙ sym (append_assoc (answer_lines salt h number x) (lines_from salt h (number + 1) xs) (lines_from salt h (number + length (x ∷ xs)) ys))

-- the lines of the entries behind those of a history
behind : (salt : ℕ) (all new h : List Entry) → answers_from salt all (new ++ h) ≡ answers_from salt all h ++ lines_from salt all (length h) (reverse new)
behind salt all [] h = sym (append-nil (answers_from salt all h))
behind salt all (e ∷ new) h =
    let counted : length (new ++ h) ≡ length h + length (reverse new) = omega (arith, length-append new h, length-reverse new) in
    let last : lines_from salt all (length h) (reverse (e ∷ new)) ≡ lines_from salt all (length h) (reverse new) ++ answer_lines salt all (length h + length (reverse new)) e =
    ap (lines_from salt all (length h)) (reverse-append (e ∷ []) new) ∙ lines-append salt all (length h) (reverse new) (e ∷ [])
    ∙ ap (λ (t : List ℕ). lines_from salt all (length h) (reverse new) ++ t) (append-nil (answer_lines salt all (length h + length (reverse new)) e)) in
    ap (λ (t : List ℕ). t ++ answer_lines salt all (length (new ++ h)) e) (behind salt all new h)
    ∙ ap (λ (n : ℕ). (answers_from salt all h ++ lines_from salt all (length h) (reverse new)) ++ answer_lines salt all n e) counted
    ∙ append_assoc (answers_from salt all h) (lines_from salt all (length h) (reverse new)) (answer_lines salt all (length h + length (reverse new)) e)
    ∙ ap (λ (t : List ℕ). answers_from salt all h ++ t) (sym last)

-- What is added is written behind what was there.
pub answers_added : (config : Config) (salt : ℕ) (new h : List Entry) → IsLegal config h
    → answers_text salt (new ++ h) ≡ answers_text salt h ++ added_lines salt h new
answers_added config salt new h l =
    behind salt (new ++ h) new h ∙ ap (λ (t : List ℕ). t ++ added_lines salt h new) (stays config salt new h h l (omega arith))
