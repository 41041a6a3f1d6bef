-- Where the lines of a text are.
use Rattle.std.proofs.Common.{◌≡◌, ℕ, ◌+◌, ◌-◌, ◌<◌, ◌≤◌, Bool, true, false, cond, nat_lt, List, [], ◌∷◌, ◌++◌, length}
use Rattle.std.proofs.Common.{take, drop, position, get_or, Some, None, refl, sym, ap, ◌∙◌, arith, append_assoc}
use Rattle.std.proofs.Common.{length-append, length-take}
use Rattle.std.specs.List.{position_or_len}
use Rattle.std.specs.Str.Lines.{lines, lines_of_parts, strip_carriage_return}
use Rattle.std.specs.Io.{IsEmptyOrEndsWith}
use Rattle.std.proofs.lemmas.Bool.Decides.{nat_tests}
use Rattle.std.proofs.lemmas.Option.{cond_some}
use Rattle.std.proofs.lemmas.List.Elements.{All-from_get_or}
use Rattle.std.proofs.lemmas.List.Splits.{slice_split_none}
use Rattle.std.proofs.lemmas.List.Sums.{fails_before_first, passes_at_first, split_at_first}
use Rattle.std.proofs.lemmas.List.{append-nil, get_or-append-add}
use Rattle.std.proofs.Math.Seq.{get_or-take, get_or-append_seam}
use Rattle.account_book.proofs.LineEnds.{is_break, line_ends}
use Rattle.script_replay.specs.Replays.{IsOpen}
use Rattle.script_replay.specs.Steps.{EndsLine, AreWhole}

-- bytes in which no line ends are at most one line
pub one_line : (line : List ℕ) → IsOpen line → lines line ≡ lines_of_parts (line ∷ [])
one_line line free = ap lines_of_parts (slice_split_none is_break line free)

ten : (b : ℕ) → is_break b ≡ true → b ≡ 10
ten b h = grind (arith, nat_tests)

not_there : (b : Bool) (n : ℕ) → cond b (Some n) None ≡ None → b ≡ false
not_there true n e = cc
not_there false n e = refl

open_before : (xs : List ℕ) (at : ℕ) → at ≤ position_or_len is_break xs → IsOpen (take at xs)
open_before xs at within = All-from_get_or (λ x. is_break x ≡ false) (take at xs) 0 (λ i below.
    let small : i < at = omega (arith, length-take at xs) in
    rw (get_or-take at xs i 0 small) (fails_before_first is_break xs i 0 (omega arith)))

-- the first line feed, where there is one, ends the first line
pub feed_ends_line : (xs : List ℕ) (at : ℕ) → position is_break xs ≡ Some at → EndsLine xs (take at xs) (drop (at + 1) xs)
feed_ends_line xs at e =
    let found = cond_some (nat_lt (position_or_len is_break xs) (length xs)) (position_or_len is_break xs) at e in
    let within : position_or_len is_break xs < length xs = grind (arith, nat_tests) in
    let feed = ten (get_or xs (position_or_len is_break xs) 0) (passes_at_first is_break xs 0 within) in
    let split = split_at_first is_break xs 0 within in
    record {
      free = open_before xs at (omega (arith, found.1));
      split = rw (feed, found.1) at split;
    }

pub no_feed : (xs : List ℕ) → position is_break xs ≡ None → IsOpen xs
no_feed xs e =
    let far = not_there (nat_lt (position_or_len is_break xs) (length xs)) (position_or_len is_break xs) e in
    let past : length xs ≤ position_or_len is_break xs = grind (arith, nat_tests) in
    All-from_get_or (λ x. is_break x ≡ false) xs 0 (λ i within. fails_before_first is_break xs i 0 (omega arith))

-- ---- bytes that end where a line does

pub no_lines : AreWhole [] []
no_lines = record { ended = λ some. absurd (omega arith); cut = λ more. refl }

ends_so : (front : List ℕ) → IsEmptyOrEndsWith (front ++ 10 ∷ []) 10
ends_so front =
    let last : length (front ++ 10 ∷ []) - 1 ≡ length front = omega (arith, length-append front (10 ∷ [])) in
    λ some. rw last (get_or-append_seam front 10 [] 0)

pub whole_line : (line : List ℕ) → IsOpen line → AreWhole (line ++ 10 ∷ []) (strip_carriage_return line ∷ [])
whole_line line free = record { ended = ends_so line; cut = λ more. ap lines (append_assoc line (10 ∷ []) more) ∙ line_ends line more free }

ends_later : (a b : List ℕ) → IsEmptyOrEndsWith a 10 → IsEmptyOrEndsWith b 10 → IsEmptyOrEndsWith (a ++ b) 10
ends_later a [] ended more = rw (append-nil a) ended
ends_later a (x ∷ b) ended more =
    let all : length (a ++ x ∷ b) - 1 ≡ length a + length b = omega (arith, length-append a (x ∷ b)) in
    let last : length (x ∷ b) - 1 ≡ length b = omega arith in
    let is : get_or (x ∷ b) (length b) 0 ≡ 10 = rw last at more (omega arith) in
    λ some. rw (all, get_or-append-add a (x ∷ b) (length b) 0) is

pub more_lines : (a b : List ℕ) (xs ys : List (List ℕ)) → AreWhole a xs → AreWhole b ys → AreWhole (a ++ b) (xs ++ ys)
more_lines a b xs ys first second = record {
  ended = ends_later a b first.ended second.ended;
  cut =
      λ more. ap lines (append_assoc a b more) ∙ first.cut (b ++ more)
      ∙ ap (λ (l : List (List ℕ)). xs ++ l) (second.cut more) ∙ sym (append_assoc xs ys (lines more));
}
