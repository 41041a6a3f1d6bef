-- A piece, line by line.
use Rattle.std.proofs.Common.{◌≡◌, ℕ, ◌+◌, false, ◌==◌, List, [], ◌∷◌, ◌++◌, length, Option, refl, sym, ap, ◌∙◌, arith, append_assoc, length-append}
use Rattle.std.specs.Str.Lines.{lines, strip_carriage_return}
use Rattle.std.proofs.lemmas.List.{append-nil}
use Rattle.std.proofs.lemmas.List.Elements.{All-append}
use Rattle.account_book.specs.Run.{Progress}
use Rattle.script_replay.specs.Replays.{IsOpen, Played, StoppedAt}
use Rattle.script_replay.specs.Steps.{EndsLine, Position, AreWhole, Going, StoppedIn}
use Rattle.script_replay.specs.declared.fault.ReplayFault.{ReplayFault}
use Rattle.script_replay.proofs.LineEnds.{no_lines, whole_line, more_lines}
use Rattle.script_replay.proofs.Composing.{played_none, played_more, stopped_after}

-- a stand at which more of the next line was read
abbrev pub with_more : Position → List ℕ → Position
with_more s bytes = record s { pending = s.pending ++ bytes }

pub going_start : (s : Position) (piece : List ℕ) (old : Option (List ℕ)) → IsOpen s.pending → Going s s piece piece old old
going_start s piece old free = record {
  whole = [];
  taken = [];
  split = refl;
  cut = no_lines;
  done = played_none (s.line + 1) s.progress old;
  counted = omega arith;
  few = omega arith;
  free = free;
}

-- the lines that come after those that were taken
abbrev pub lines_left : Position → List ℕ → List ℕ → List (List ℕ)
lines_left now rest more = lines (now.pending ++ (rest ++ more))

-- the lines of a piece, and of more
pub going_lines : (s now : Position) (piece rest : List ℕ) (old new : Option (List ℕ)) (so_far : Going s now piece rest old new) (more : List ℕ)
    → lines (s.pending ++ (piece ++ more)) ≡ so_far.taken ++ lines_left now rest more
going_lines s now piece rest old new so_far more =
    ap lines (sym (append_assoc s.pending piece more)) ∙ ap (λ (l : List ℕ). lines (l ++ more)) so_far.split
    ∙ ap lines (append_assoc so_far.whole (now.pending ++ rest) more) ∙ so_far.cut.cut ((now.pending ++ rest) ++ more)
    ∙ ap (λ (l : List ℕ). so_far.taken ++ lines l) (append_assoc now.pending rest more)

line_of : (now : Position) (rest line others : List ℕ) → IsOpen now.pending → EndsLine rest line others
    → AreWhole ((now.pending ++ line) ++ 10 ∷ []) (strip_carriage_return (now.pending ++ line) ∷ [])
line_of now rest line others unended ends = whole_line (now.pending ++ line) (All-append (λ b. (b == 10) ≡ false) now.pending line unended ends.free)

line_split : (now : Position) (rest line others : List ℕ) → EndsLine rest line others → now.pending ++ rest ≡ ((now.pending ++ line) ++ 10 ∷ []) ++ others
line_split now rest line others ends =
    ap (λ (l : List ℕ). now.pending ++ l) ends.split ∙ sym (append_assoc now.pending line (10 ∷ others))
    ∙ sym (append_assoc (now.pending ++ line) (10 ∷ []) others)

line_cut : (now : Position) (rest line others more : List ℕ) → IsOpen now.pending → EndsLine rest line others
    → lines_left now rest more ≡ strip_carriage_return (now.pending ++ line) ∷ lines (others ++ more)
line_cut now rest line others more unended ends =
    ap lines (sym (append_assoc now.pending rest more)) ∙ ap (λ (l : List ℕ). lines (l ++ more)) (line_split now rest line others ends)
    ∙ ap lines (append_assoc ((now.pending ++ line) ++ 10 ∷ []) others more) ∙ (line_of now rest line others unended ends).cut (others ++ more)

pub going_line : (s now : Position) (piece rest line others : List ℕ) (next : Progress) (number : ℕ) (old mid new : Option (List ℕ))
    → Going s now piece rest old mid → EndsLine rest line others
    → Played (now.line + 1) now.progress next (strip_carriage_return (now.pending ++ line) ∷ []) mid new → number ≡ now.line + 1
    → Going s (record { progress = next; line = number; pending = [] }) piece others old new
going_line s now piece rest line others next number old mid new so_far ends played counted =
    let longer : length rest ≡ length line + (1 + length others) = ap length ends.split ∙ length-append line (10 ∷ others) ∙ omega arith in
    let ended = (now.pending ++ line) ++ 10 ∷ [] in
    record {
      whole = so_far.whole ++ ended;
      taken = so_far.taken ++ strip_carriage_return (now.pending ++ line) ∷ [];
      split = so_far.split ∙ ap (λ (l : List ℕ). so_far.whole ++ l) (line_split now rest line others ends) ∙ sym (append_assoc so_far.whole ended others);
      cut =
          more_lines so_far.whole ended so_far.taken (strip_carriage_return (now.pending ++ line) ∷ []) so_far.cut
          (line_of now rest line others so_far.free ends);
      done =
          played_more (s.line + 1) (now.line + 1) s.progress now.progress next so_far.taken
          (strip_carriage_return (now.pending ++ line) ∷ []) old mid new so_far.done played
          (omega (arith, so_far.counted));
      counted = omega (arith, so_far.counted, counted, length-append so_far.taken (strip_carriage_return (now.pending ++ line) ∷ []));
      few = omega (arith, so_far.few, longer, length-append so_far.taken (strip_carriage_return (now.pending ++ line) ∷ []));
      free = λ k d h. absurd (omega arith);
    }

-- no line ends in the rest of the piece
pub going_rest : (s now : Position) (piece rest : List ℕ) (old new : Option (List ℕ)) → Going s now piece rest old new
    → IsOpen rest → Going s (with_more now rest) piece [] old new
going_rest s now piece rest old new so_far free = record {
  whole = so_far.whole;
  taken = so_far.taken;
  split = so_far.split ∙ ap (λ (l : List ℕ). so_far.whole ++ l) (sym (append-nil (now.pending ++ rest)));
  cut = so_far.cut;
  done = so_far.done;
  counted = so_far.counted;
  few = omega (arith, so_far.few);
  free = All-append (λ b. (b == 10) ≡ false) now.pending rest so_far.free free;
}

pub stopped_line : (s now : Position) (piece rest line others : List ℕ) (old mid new : Option (List ℕ)) (e : ReplayFault)
    → Going s now piece rest old mid → EndsLine rest line others
    → ((more : List (List ℕ)) → StoppedAt (now.line + 1) now.progress (strip_carriage_return (now.pending ++ line) ∷ more) mid new e)
    → StoppedIn s piece old new e
stopped_line s now piece rest line others old mid new e so_far ends stopped =
    λ more. stopped_after (s.line + 1) (now.line + 1) s.progress now.progress so_far.taken (strip_carriage_return (now.pending ++ line) ∷ lines (others ++ more)) _ old mid new e so_far.done (omega (arith, so_far.counted))
    (going_lines s now piece rest old mid so_far more ∙ ap (λ (x : List (List ℕ)). so_far.taken ++ x) (line_cut now rest line others more so_far.free ends))
    (stopped _)

-- a fault before a line of the rest was taken
pub stopped_here : (s now : Position) (piece rest : List ℕ) (old new : Option (List ℕ)) (e : ReplayFault) → Going s now piece rest old new
    → ((more : List ℕ) → StoppedAt (now.line + 1) now.progress (lines_left now rest more) new new e) → StoppedIn s piece old new e
stopped_here s now piece rest old new e so_far stopped =
    λ more. stopped_after (s.line + 1) (now.line + 1) s.progress now.progress so_far.taken (lines_left now rest more) _ old new new e so_far.done (omega (arith, so_far.counted)) (going_lines s now piece rest old new so_far more) (stopped more)

-- the same where the bytes of a line were not kept
pub stopped_keeping : (s now : Position) (piece rest line others : List ℕ) (old new : Option (List ℕ)) (e : ReplayFault)
    → Going s now piece rest old new → EndsLine rest line others
    → ((kept : Option (List ℕ)) (more : List ℕ) → StoppedAt (now.line + 1) now.progress (lines (now.pending ++ (line ++ more))) kept kept e)
    → StoppedIn s piece old new e
stopped_keeping s now piece rest line others old new e so_far ends stopped =
    stopped_here s now piece rest old new e so_far (λ more. rw (ends.split, append_assoc line (10 ∷ others) more) (stopped new (10 ∷ (others ++ more))))
