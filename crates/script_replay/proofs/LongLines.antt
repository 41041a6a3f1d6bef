-- A line that is already past its limit, and may go on.
use Rattle.std.proofs.Common.{◌≡◌, ℕ, ◌+◌, ◌-◌, ◌<◌, ◌≤◌, Bool, true, false, ◌==◌, if◌then◌else◌, slice_index, List, []}
use Rattle.std.proofs.Common.{◌∷◌, ◌++◌, length, take, Option, refl, sym, ap, ◌∙◌, arith, append_assoc, length-append}
use Rattle.std.proofs.Common.{length-take}
use Rattle.std.specs.List.{slice_split, AllByRecursion}
use Rattle.std.specs.Str.Lines.{lines, lines_of_parts, strip_carriage_return}
use Rattle.std.proofs.lemmas.Bool.Decides.{nat_tests}
use Rattle.std.proofs.lemmas.List.Elements.{All-append, recursion_from_All}
use Rattle.account_book.specs.Run.{Progress, line_limit, line_taken}
use Rattle.script_replay.specs.Replays.{IsOpen, StoppedAt}
use Rattle.script_replay.specs.Faults.{HasFault}
use Rattle.script_replay.specs.declared.fault.ReplayFault.{ReplayFault}
use Rattle.account_book.proofs.LineEnds.{is_break, pieces_begin}
use Rattle.script_replay.proofs.Composing.{line_stops}

joins : (p xs q : List ℕ) (qs : List (List ℕ)) → AllByRecursion (λ b. (b == 10) ≡ false) p
    → slice_split is_break xs ≡ q ∷ qs → slice_split is_break (p ++ xs) ≡ (p ++ q) ∷ qs
joins [] xs q qs free e = e
joins (b ∷ p) xs q qs free e = rw (free.0, joins p xs q qs free.1 e) refl

-- one of two
choice_length : (b : Bool) (n : ℕ) (xs ys : List ℕ) → n ≤ length xs + 1 → n ≤ length ys + 1 → n ≤ length (if b then xs else ys) + 1
choice_length true n xs ys h k = h
choice_length false n xs ys h k = k

strip_length : (line : List ℕ) → length line ≤ length (strip_carriage_return line) + 1
strip_length line = choice_length (slice_index line (length line - 1) == 13) (length line) (take (length line - 1) line) line
    (omega (arith, length-take (length line - 1) line)) (omega arith)

-- the first line of such parts is at most one byte shorter than the first part
parts_begin : (part : List ℕ) (parts : List (List ℕ)) → 0 < length part
    → (line : List ℕ) × (rest : List (List ℕ)) × (lines_of_parts (part ∷ parts) ≡ line ∷ rest) × (length part ≤ length line + 1)
parts_begin [] parts some = absurd (omega arith)
parts_begin (b ∷ bs) [] some = let full : (length (b ∷ bs) == 0) ≡ false = grind (arith, nat_tests) in (b ∷ bs, [], rw full refl, omega arith)
parts_begin (b ∷ bs) (part ∷ parts) some = (strip_carriage_return (b ∷ bs), lines_of_parts (part ∷ parts), refl, strip_length (b ∷ bs))

goes_past : (p rest : List ℕ) → IsOpen p → 0 < length p
    → (line : List ℕ) × (more : List (List ℕ)) × (lines (p ++ rest) ≡ line ∷ more) × (length p ≤ length line + 1)
goes_past p rest free some =
    let begins = pieces_begin rest in
    let whole = joins p rest begins.0 begins.1 (recursion_from_All (λ x. (x == 10) ≡ false) p free) begins.2 in
    let first = parts_begin (p ++ begins.0) begins.1 (omega (arith, length-append p begins.0)) in
    (first.0, first.1, ap lines_of_parts whole ∙ first.2, omega (arith, first.3, length-append p begins.0))

-- a line that has passed its limit has the fault of such lines, whatever follows
pub stops_past : (number : ℕ) (progress : Progress) (pending bytes rest : List ℕ) (old : Option (List ℕ)) (e : ReplayFault)
    → IsOpen pending → IsOpen bytes → line_limit + 1 < length pending + length bytes
    → ((line : List ℕ) → line_limit < length line → HasFault (line_taken number progress line) e)
    → StoppedAt number progress (lines (pending ++ (bytes ++ rest))) old old e
stops_past number progress pending bytes rest old e free more_free far has =
    let all = All-append (λ b. (b == 10) ≡ false) pending bytes free more_free in
    let past = goes_past (pending ++ bytes) rest all (omega (arith, length-append pending bytes)) in
    let is : lines (pending ++ (bytes ++ rest)) ≡ past.0 ∷ past.1 = ap lines (sym (append_assoc pending bytes rest)) ∙ past.2 in
    rw is (line_stops number progress past.0 past.1 old e (has past.0 (omega (arith, past.3, length-append pending bytes))))
