-- A line feed ends a line, and a text without control bytes is the line that it stands for.
use Rattle.std.proofs.Common.{◌≡◌, ℕ, ◌-◌, ◌<◌, Bool, true, false, cond, ◌==◌, nat_le, slice_index, if◌then◌else◌, take}
use Rattle.std.proofs.Common.{List, [], ◌∷◌, ◌++◌, length, All, refl, sym, ap, ◌∙◌, arith, append_assoc}
use Rattle.std.specs.List.{slice_split, onto_first, list_all}
use Rattle.std.specs.Str.Lines.{lines, lines_of_parts, strip_carriage_return}
use Rattle.std.proofs.lemmas.Bool.Decides.{nat_tests}
use Rattle.std.proofs.lemmas.List.Elements.{All-nil, All-cons}
use Rattle.std.proofs.lemmas.List.Splits.{slice_split_at}
use Rattle.arn_ids.proofs.Printable.{both}
use Rattle.script.proofs.WordBounds.{Fits, is_plain}

abbrev pub is_break : ℕ → Bool
is_break b = b == 10

begins_onto : (b : Bool) (x : ℕ) (rest : List (List ℕ)) → (q : List ℕ) × (qs : List (List ℕ)) × (rest ≡ q ∷ qs)
    → (q : List ℕ) × (qs : List (List ℕ)) × (cond b ([] ∷ rest) (onto_first x rest) ≡ q ∷ qs)
begins_onto true x rest h = ([], rest, refl)
begins_onto false x rest (q, qs, e) = (x ∷ q, qs, rw e refl)

-- there is a first piece
pub pieces_begin : (xs : List ℕ) → (q : List ℕ) × (qs : List (List ℕ)) × (slice_split is_break xs ≡ q ∷ qs)
pieces_begin [] = ([], [], refl)
pieces_begin (x ∷ xs) = begins_onto (is_break x) x (slice_split is_break xs) (pieces_begin xs)

line_before : (line : List ℕ) (rest : List (List ℕ)) (q : List ℕ) (qs : List (List ℕ)) → rest ≡ q ∷ qs
    → lines_of_parts (line ∷ rest) ≡ strip_carriage_return line ∷ lines_of_parts rest
line_before line rest q qs e = rw e refl

-- a line feed ends a line
pub line_ends : (line more : List ℕ) → All (λ b. (b == 10) ≡ false) line → lines (line ++ 10 ∷ more) ≡ strip_carriage_return line ∷ lines more
line_ends line more free =
    let begins = pieces_begin more in
    ap lines_of_parts (slice_split_at is_break line 10 more free refl) ∙ line_before line (slice_split is_break more) begins.0 begins.1 begins.2

-- ---- lines without control bytes

no_control : (control : ℕ) → control < 32 → (text : List ℕ) → is_plain text ≡ true → All (λ b. (b == control) ≡ false) text
no_control control small [] h = All-nil (λ b. (b == control) ≡ false)
no_control control small (b ∷ bs) h =
    let p = both (nat_le 32 b) (list_all (nat_le 32) bs) h in
    let high = p.0 in
    All-cons (λ b. (b == control) ≡ false) b bs (grind (arith, nat_tests)) (no_control control small bs p.1)

last_byte : (text : List ℕ) → All (λ b. (b == 13) ≡ false) text → (slice_index text (length text - 1) == 13) ≡ false
last_byte [] all = refl
last_byte (b ∷ bs) all = all (length (b ∷ bs) - 1) 0 (omega arith)

unstripped : (text : List ℕ) (b : Bool) → b ≡ false → (if b then take (length text - 1) text else text) ≡ text
unstripped text true e = cc
unstripped text false e = refl

stays_whole : (text : List ℕ) → is_plain text ≡ true → strip_carriage_return text ≡ text
stays_whole text h = unstripped text (slice_index text (length text - 1) == 13) (last_byte text (no_control 13 (omega arith) text h))

-- lines, each with its line feed
abbrev pub ended : List (List ℕ) → List ℕ
ended [] = []
ended (line ∷ lines) = line ++ 10 ∷ ended lines

-- each of them is a line
abbrev pub AreLines : List (List ℕ) → Type 0
AreLines [] = Unit {0}
AreLines (line ∷ lines) = Fits 20000000 line × AreLines lines

pub lines_again : (ls : List (List ℕ)) (more : List ℕ) → AreLines ls → lines (ended ls ++ more) ≡ ls ++ lines more
lines_again [] more h = refl
lines_again (line ∷ ls) more h =
    ap lines (append_assoc line (10 ∷ ended ls) more)
    ∙ line_ends line (ended ls ++ more) (no_control 10 (omega arith) line h.0.plain)
    ∙ ap (λ (l : List ℕ). l ∷ lines (ended ls ++ more)) (stays_whole line h.0.plain)
    ∙ ap (λ (l : List (List ℕ)). line ∷ l) (lines_again ls more h.1)

pub ended-append : (xs ys : List (List ℕ)) → ended (xs ++ ys) ≡ ended xs ++ ended ys
ended-append [] ys = refl
ended-append (x ∷ xs) ys = ap (λ (t : List ℕ). x ++ 10 ∷ t) (ended-append xs ys) ∙ again x (ended xs) (ended ys)
  where
    again : (a b c : List ℕ) → a ++ 10 ∷ (b ++ c) ≡ (a ++ 10 ∷ b) ++ c
    again a b c = sym (append_assoc a (10 ∷ b) c)

pub are_lines-append : (xs ys : List (List ℕ)) → AreLines xs → AreLines ys → AreLines (xs ++ ys)
are_lines-append [] ys h k = k
are_lines-append (x ∷ xs) ys h k = (h.0, are_lines-append xs ys h.1 k)
