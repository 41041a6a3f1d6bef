-- What was read and what is left, over a whole replay.
use Rattle.std.proofs.Common.{◌≡◌, ℕ, ◌+◌, Bool, false, ◌==◌, List, [], ◌∷◌, ◌++◌, length, Option, Some, None, IfSome}
use Rattle.std.proofs.Common.{Result, Ok, Err, OnOk, take, refl, sym, ap, ◌∙◌, arith, append_assoc, length-append}
use Rattle.std.proofs.lemmas.Bool.Decides.{nat_tests}
use Rattle.std.proofs.lemmas.List.{append-nil}
use Rattle.std.specs.Io.KnownBytes.{Keeps, Consumes, IsAtEnd}
use Rattle.std.specs.Str.Lines.{lines}
use Rattle.account_book.specs.Book.{Kept}
use Rattle.account_book.specs.Run.{Progress, AtStart, Taking, fault_at_end}
use Rattle.script_replay.specs.Replays.{IsOpen, LeadsTo, Played, Replays, StoppedAt, Stops}
use Rattle.script_replay.specs.Steps.{Position, AreWhole, Going, StoppedIn, first_position, last_lines}
use Rattle.script_replay.specs.declared.fault.ReplayFault.{ReplayFault}
use Rattle.script_replay.specs.declared.fault.ReplayFault.TheVariants as faults
use Rattle.script_replay.proofs.LineEnds.{one_line, no_lines, more_lines}
use Rattle.script_replay.proofs.Composing.{played_none, played_more, stopped_after, ends_played, nothing_played}

-- what was read of the input, all but the rest, is the lines that were taken and what is pending
pub record Reading (input rest : List ℕ) (now : Position) (old new : Option (List ℕ)) : Type 0 where
  pub whole : List ℕ
  pub taken : List (List ℕ)
  pub split : input ≡ whole ++ (now.pending ++ rest)
  pub cut : AreWhole whole taken
  pub done : Played 1 AtStart now.progress taken old new
  pub counted : now.line ≡ length taken
  pub free : IsOpen now.pending

lines_read : (input rest : List ℕ) (now : Position) (old new : Option (List ℕ)) (r : Reading input rest now old new)
    → lines input ≡ r.taken ++ lines (now.pending ++ rest)
lines_read input rest now old new r = ap lines r.split ∙ r.cut.cut (now.pending ++ rest)

abbrev pub ReadSoFar : Option (List ℕ) → Option (List ℕ) → Position → Option (List ℕ) → Option (List ℕ) → Type 0
ReadSoFar None left now old new = IsOpen now.pending
ReadSoFar (Some input) None now old new = ⊥
ReadSoFar (Some input) (Some rest) now old new = Reading input rest now old new

pub read_kept : (first left after : Option (List ℕ)) (now : Position) (old new : Option (List ℕ))
    → ReadSoFar first left now old new → Keeps left after → ReadSoFar first after now old new
read_kept None left after now old new r kept = r
read_kept (Some input) None after now old new r kept = absurd r
read_kept (Some input) (Some rest) None now old new r kept = absurd kept
read_kept (Some input) (Some rest) (Some more) now old new r kept = rw kept r

piece_split : (s now : Position) (piece rest more : List ℕ) (old new : Option (List ℕ)) → rest ≡ piece ++ more
    → (going : Going s now piece [] old new) → s.pending ++ rest ≡ going.whole ++ (now.pending ++ more)
piece_split s now piece rest more old new taken going =
    ap (λ (l : List ℕ). s.pending ++ l) taken ∙ sym (append_assoc s.pending piece more) ∙ ap (λ (l : List ℕ). l ++ more) going.split
    ∙ ap (λ (l : List ℕ). (going.whole ++ l) ++ more) (append-nil now.pending) ∙ append_assoc going.whole now.pending more

pub read_piece : (first left after : Option (List ℕ)) (piece : List ℕ) (s now : Position) (old mid new : Option (List ℕ))
    → ReadSoFar first left s old mid → Consumes left after piece → Going s now piece [] mid new
    → ReadSoFar first after now old new
read_piece None left after piece s now old mid new r taken going = going.free
read_piece (Some input) None after piece s now old mid new r taken going = absurd r
read_piece (Some input) (Some rest) None piece s now old mid new r taken going = absurd taken
read_piece (Some input) (Some rest) (Some more) piece s now old mid new r taken going = record {
  whole = r.whole ++ going.whole;
  taken = r.taken ++ going.taken;
  split =
      r.split ∙ ap (λ (l : List ℕ). r.whole ++ l) (piece_split s now piece rest more mid new taken going)
      ∙ sym (append_assoc r.whole going.whole (now.pending ++ more));
  cut = more_lines r.whole going.whole r.taken going.taken r.cut going.cut;
  done = played_more 1 (s.line + 1) AtStart s.progress now.progress r.taken going.taken old mid new r.done going.done (omega (arith, r.counted));
  counted = omega (arith, r.counted, going.counted, length-append r.taken going.taken);
  free = going.free;
}

-- a fault of lines is one of the script
stops_so : (input : List ℕ) (left old new : Option (List ℕ)) (e : ReplayFault) → StoppedAt 1 AtStart (lines input) old new e → Stops input left old new e
stops_so input left old new (faults.Config fault) stopped = stopped
stops_so input left old new (faults.Wire fault) stopped = stopped
stops_so input left old new (faults.Script line) stopped = stopped
stops_so input left old new faults.Read stopped = absurd stopped
stops_so input left old new faults.Write stopped = stopped
stops_so input left old new faults.OutOfMemory stopped = stopped

pub read_stopped : (first left after : Option (List ℕ)) (piece : List ℕ) (s : Position) (old mid new : Option (List ℕ)) (e : ReplayFault)
    → ReadSoFar first left s old mid → Consumes left after piece → StoppedIn s piece mid new e
    → IfSome first (λ input. Stops input after old new e)
read_stopped None left after piece s old mid new e r taken stopped = tt
read_stopped (Some input) None after piece s old mid new e r taken stopped = absurd r
read_stopped (Some input) (Some rest) None piece s old mid new e r taken stopped = absurd taken
read_stopped (Some input) (Some rest) (Some more) piece s old mid new e r taken stopped =
    stops_so input (Some more) old new e
    (stopped_after 1 (s.line + 1) AtStart s.progress r.taken (lines (s.pending ++ (piece ++ more))) _ old mid new e r.done (omega (arith, r.counted)) (lines_read input rest s old mid r ∙ rw taken refl) (stopped more))

pub read_failed : (first left : Option (List ℕ)) (s : Position) (old new : Option (List ℕ))
    → ReadSoFar first left s old new → IfSome first (λ input. Stops input left old new faults.Read)
read_failed None left s old new r = tt
read_failed (Some input) None s old new r = absurd r
read_failed (Some input) (Some rest) s old new r =
    let all : lines r.whole ≡ r.taken = ap lines (sym (append-nil r.whole)) ∙ r.cut.cut [] ∙ append-nil r.taken in
    record {
      whole = r.whole;
      pending = s.pending;
      read = r.split ∙ sym (append_assoc r.whole s.pending rest);
      ended = r.cut.ended;
      free = r.free;
      next = s.progress;
      played = rw all r.done;
    }

pub last_is : (pending : List ℕ) → (length pending == 0) ≡ false → last_lines pending ≡ pending ∷ []
last_is [] some = cc
last_is (b ∷ bs) some = refl

-- the last line may lack its line feed
last_cut : (pending : List ℕ) → IsOpen pending → lines pending ≡ last_lines pending
last_cut [] free = refl
last_cut (b ∷ bs) free = let full : (length (b ∷ bs) == 0) ≡ false = grind (arith, nat_tests) in one_line (b ∷ bs) free ∙ rw full refl

script_ends : (input rest : List ℕ) (s : Position) (old new : Option (List ℕ)) (r : Reading input rest s old new)
    → rest ≡ [] → lines input ≡ r.taken ++ last_lines s.pending
script_ends input rest s old new r end =
    lines_read input rest s old new r ∙ ap (λ (l : List ℕ). r.taken ++ lines (s.pending ++ l)) end
    ∙ ap (λ (l : List ℕ). r.taken ++ lines l) (append-nil s.pending)
    ∙ ap (λ (l : List (List ℕ)). r.taken ++ l) (last_cut s.pending r.free)

pub read_last : (first left : Option (List ℕ)) (s : Position) (next : Progress) (old mid new : Option (List ℕ)) → ReadSoFar first left s old mid → IsAtEnd left
    → Played (s.line + 1) s.progress next (last_lines s.pending) mid new → IfSome first (λ input. Played 1 AtStart next (lines input) old new)
read_last None left s next old mid new r end last = tt
read_last (Some input) None s next old mid new r end last = absurd r
read_last (Some input) (Some rest) s next old mid new r end last =
    rw (script_ends input rest s old mid r end)
    (played_more 1 (s.line + 1) AtStart s.progress next r.taken (last_lines s.pending) old mid new r.done last (omega (arith, r.counted)))

-- nothing was read yet
pub read_first : (first : Option (List ℕ)) (s : Position) (old : Option (List ℕ)) → s ≡ first_position → ReadSoFar first first s old old
read_first first s old is = rw is (go first)
  where
    go : (first : Option (List ℕ)) → ReadSoFar first first first_position old old
    go None = λ k d h. absurd (omega arith)
    go (Some input) = record {
      whole = [];
      taken = [];
      split = refl;
      cut = no_lines;
      done = played_none 1 AtStart old;
      counted = refl;
      free = λ k d h. absurd (omega arith);
    }

pub last_stopped : (first left : Option (List ℕ)) (s : Position) (old mid new : Option (List ℕ)) (e : ReplayFault)
    → ReadSoFar first left s old mid → IsAtEnd left
    → StoppedAt (s.line + 1) s.progress (last_lines s.pending) mid new e → IfSome first (λ input. Stops input left old new e)
last_stopped None left s old mid new e r end stopped = tt
last_stopped (Some input) None s old mid new e r end stopped = absurd r
last_stopped (Some input) (Some rest) s old mid new e r end stopped =
    stops_so input (Some rest) old new e
    (stopped_after 1 (s.line + 1) AtStart s.progress r.taken (last_lines s.pending) _ old mid new e r.done (omega (arith, r.counted)) (script_ends input rest s old mid r end) stopped)

pub read_nothing : (first left after : Option (List ℕ)) (buf : List ℕ) (n : ℕ) (now : Position) (old new : Option (List ℕ))
    → ReadSoFar first left now old new → Consumes left after (take n buf) → n ≡ 0 → ReadSoFar first after now old new
read_nothing None left after buf n now old new r taken zero = r
read_nothing (Some input) None after buf n now old new r taken zero = absurd r
read_nothing (Some input) (Some rest) None buf n now old new r taken zero = absurd taken
read_nothing (Some input) (Some rest) (Some more) buf n now old new r taken zero =
    let same : more ≡ rest = sym (rw zero at taken) in
    rw same r

-- a replay without a fault, over what is known of the input
pub replays_so : (r : Result (Unit {0}) ReplayFault) (first : Option (List ℕ)) (next : Progress) (old new : Option (List ℕ))
    → OnOk r (IfSome first (λ input. Played 1 AtStart next (lines input) old new))
    → OnOk r (fault_at_end next ≡ None) → OnOk r (IfSome first (λ input. Replays input old new))
replays_so (Err e) first next old new p open_end = tt
replays_so (Ok done) None next old new p open_end = tt
replays_so (Ok done) (Some input) next old new p open_end = ends_played 1 AtStart next (lines input) old new None p open_end

-- the book that it leads to
pub leads_so : (first : Option (List ℕ)) (next : Progress) (reserves : Bool) (book : Kept) (old : Option (List ℕ))
    → IfSome first (λ input. Played 1 AtStart next (lines input) old old)
    → next ≡ Taking reserves book → IfSome first (λ input. LeadsTo input book)
leads_so None next reserves book old p is = tt
leads_so (Some input) next reserves book old p is = record { reserves = reserves; text = p.text; took = p.took ∙ ap (λ (b : Progress). Ok (b, p.text)) is }

-- no line was replayed, for want of memory
pub stops_nowhere : (first left : Option (List ℕ)) → IfSome first (λ input. Stops input left None None faults.OutOfMemory)
stops_nowhere None left = tt
stops_nowhere (Some input) left = nothing_played 1 AtStart (lines input) None
