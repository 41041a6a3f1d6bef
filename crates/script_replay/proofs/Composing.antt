-- Lines replayed one after the other.
use Rattle.std.proofs.Common.{◌≡◌, ℕ, ◌+◌, List, [], ◌∷◌, ◌++◌, length, Option, Some, Result, Ok, Err, refl, sym, ap, ◌∙◌, arith, append_assoc}
use Rattle.std.proofs.lemmas.List.{append-nil}
use Rattle.std.specs.Io.KnownBytes.{Appends}
use Rattle.account_book.specs.Run.{ScriptFault, InConfiguration, InText, InLine, Progress, fault_at_end, Replayed, before, and_then, line_taken, replay_from}
use Rattle.script_replay.specs.Replays.{onto, then_taken, lines_taken, Played, Ended, Broken, Cut, StoppedAt}
use Rattle.script_replay.specs.Faults.{HasFault}
use Rattle.std.proofs.lemmas.Result.{IfOk-at_ok}
use Rattle.script_replay.specs.declared.fault.ReplayFault.{ReplayFault}
use Rattle.script_replay.specs.declared.fault.ReplayFault.TheVariants as faults
use Rattle.script_replay.proofs.Written.{appends_nothing, appends_more}

-- two texts, one after the other
before_before : (a b : List ℕ) (r : Replayed) → before a (before b r) ≡ before (a ++ b) r
before_before a b r = ap (λ (t : List ℕ). record { text = t; fault = r.fault }) (sym (append_assoc a b r.text))

onto_ok : (text : List ℕ) (r : Result (Progress × List ℕ) ScriptFault) (b : Progress) (t : List ℕ)
    → onto text r ≡ Ok (b, t) → (more : List ℕ) × (r ≡ Ok (b, more)) × (t ≡ text ++ more)
onto_ok text (Err fault) b t e = absurd (IfOk-at_ok (λ _. ⊥) e tt)
onto_ok text (Ok (next, more)) b t e =
    let p = IfOk-at_ok (λ (x : Progress × List ℕ). (next, text ++ more) ≡ x) e refl in
    (more, ap (λ (x : Progress × List ℕ). Ok (x.0, more)) p, sym (ap (λ (x : Progress × List ℕ). x.1) p))

-- where more lines than one were taken, the first one was, and then the others
first_ok : (r : Result (Progress × List ℕ) ScriptFault) (rest : Progress → Result (Progress × List ℕ) ScriptFault) (b : Progress) (t : List ℕ)
    → then_taken r rest ≡ Ok (b, t)
    → (next : Progress) × (text : List ℕ) × (more : List ℕ) × (r ≡ Ok (next, text)) × (rest next ≡ Ok (b, more)) × (t ≡ text ++ more)
first_ok (Err fault) rest b t e = absurd (IfOk-at_ok (λ _. ⊥) e tt)
first_ok (Ok (next, text)) rest b t e = let p = onto_ok text (rest next) b t e in (next, text, p.0, refl, p.1, p.2)

taken_more : (number : ℕ) (a b c : Progress) (xs ys : List (List ℕ)) (t u : List ℕ)
    → lines_taken number a xs ≡ Ok (b, t) → lines_taken (number + length xs) b ys ≡ Ok (c, u)
    → lines_taken number a (xs ++ ys) ≡ Ok (c, t ++ u)
taken_more number a b c [] ys t u first second =
    let p = IfOk-at_ok (λ (x : Progress × List ℕ). (a, []) ≡ x) first refl in
    let same : number + 0 ≡ number = omega arith in
    let from : a ≡ b = ap (λ (x : Progress × List ℕ). x.0) p in
    let text : [] ≡ t = ap (λ (x : Progress × List ℕ). x.1) p in
    rw (from, sym text) (rw same at second)
taken_more number a b c (x ∷ xs) ys t u first second =
    let p = first_ok (line_taken number a x) (λ next. lines_taken (number + 1) next xs) b t first in
    let last : number + length (x ∷ xs) ≡ number + 1 + length xs = omega arith in
    let rest = taken_more (number + 1) p.0 b c xs ys p.2 u p.4 (rw last at second) in
    ap (λ (r : Result (Progress × List ℕ) ScriptFault). then_taken r (λ next. lines_taken (number + 1) next (xs ++ ys))) p.3 ∙ ap (onto p.1) rest
    ∙ ap (λ (l : List ℕ). Ok (c, l)) (sym (append_assoc p.1 p.2 u)) ∙ ap (λ (l : List ℕ). Ok (c, l ++ u)) (sym p.5)

-- what lines come to that were taken, and others behind them
replays_on : (number : ℕ) (a b : Progress) (xs more : List (List ℕ)) (t : List ℕ) → lines_taken number a xs ≡ Ok (b, t)
    → replay_from number a (xs ++ more) ≡ before t (replay_from (number + length xs) b more)
replays_on number a b [] more t took =
    let p = IfOk-at_ok (λ (x : Progress × List ℕ). (a, []) ≡ x) took refl in
    let same : number + 0 ≡ number = omega arith in
    let from : b ≡ a = sym (ap (λ (x : Progress × List ℕ). x.0) p) in
    let text : t ≡ [] = sym (ap (λ (x : Progress × List ℕ). x.1) p) in
    rw (from, text, same) refl
replays_on number a b (x ∷ xs) more t took =
    let p = first_ok (line_taken number a x) (λ next. lines_taken (number + 1) next xs) b t took in
    let last : number + 1 + length xs ≡ number + length (x ∷ xs) = omega arith in
    let rest = replays_on (number + 1) p.0 b xs more p.2 p.4 in
    ap (λ (r : Result (Progress × List ℕ) ScriptFault). and_then r (λ next. replay_from (number + 1) next (xs ++ more))) p.3 ∙ ap (before p.1) rest
    ∙ before_before p.1 p.2 (replay_from (number + 1 + length xs) b more)
    ∙ ap (λ (l : List ℕ). before l (replay_from (number + 1 + length xs) b more)) (sym p.5) ∙ ap (λ (k : ℕ). before t (replay_from k b more)) last

pub played_none : (number : ℕ) (progress : Progress) (old : Option (List ℕ)) → Played number progress progress [] old old
played_none number progress old = record { text = []; took = refl; wrote = appends_nothing old }

pub played_more : (number then : ℕ) (a b c : Progress) (xs ys : List (List ℕ)) (old mid new : Option (List ℕ))
    → Played number a b xs old mid → Played then b c ys mid new → then ≡ number + length xs
    → Played number a c (xs ++ ys) old new
played_more number then a b c xs ys old mid new p q is = record {
  text = p.text ++ q.text;
  took = taken_more number a b c xs ys p.text q.text p.took (rw is at q.took);
  wrote = appends_more old mid new p.text q.text p.wrote q.wrote;
}

-- what lines come to after others
played_before : (number then : ℕ) (a b : Progress) (xs rest all : List (List ℕ)) (old mid : Option (List ℕ)) (p : Played number a b xs old mid)
    → then ≡ number + length xs → all ≡ xs ++ rest
    → replay_from number a all ≡ before p.text (replay_from then b rest)
played_before number then a b xs rest all old mid p counted is =
    ap (replay_from number a) is ∙ replays_on number a b xs rest p.text p.took ∙ ap (λ (k : ℕ). before p.text (replay_from k b rest)) (sym counted)

pub ended_after : (number then : ℕ) (a b : Progress) (xs rest all : List (List ℕ)) (old mid new : Option (List ℕ)) (fault : Option ScriptFault)
    → Played number a b xs old mid → then ≡ number + length xs → all ≡ xs ++ rest
    → Ended then b rest fault mid new → Ended number a all fault old new
ended_after number then a b xs rest all old mid new fault p counted is s =
    let whole = played_before number then a b xs rest all old mid p counted is in
    record {
      ends = ap (λ (r : Replayed). r.fault) whole ∙ s.ends;
      wrote = rw whole (appends_more old mid new p.text (replay_from then b rest).text p.wrote s.wrote);
    }

broken_after : (number then : ℕ) (a b : Progress) (xs rest all : List (List ℕ)) (old mid new : Option (List ℕ))
    → Played number a b xs old mid → then ≡ number + length xs → all ≡ xs ++ rest
    → Broken then b rest mid new → Broken number a all old new
broken_after number then a b xs rest all old mid new p counted is s =
    let whole = played_before number then a b xs s.first (xs ++ s.first) old mid p counted refl in
    record {
      first = xs ++ s.first;
      rest = s.rest;
      split = is ∙ ap (λ (l : List (List ℕ)). xs ++ l) s.split ∙ sym (append_assoc xs s.first s.rest);
      wrote = rw whole (appends_more old mid new p.text (replay_from then b s.first).text p.wrote s.wrote);
    }

cut_after : (number then : ℕ) (a b : Progress) (xs rest all : List (List ℕ)) (old mid new : Option (List ℕ))
    → Played number a b xs old mid → then ≡ number + length xs → all ≡ xs ++ rest
    → Cut then b rest mid new → Cut number a all old new
cut_after number then a b xs rest all old mid new p counted is s =
    let whole = played_before number then a b xs rest all old mid p counted is in
    record {
      front = p.text ++ s.front;
      lost = s.lost;
      split = ap (λ (r : Replayed). r.text) whole ∙ ap (λ (t : List ℕ). p.text ++ t) s.split ∙ sym (append_assoc p.text s.front s.lost);
      wrote = appends_more old mid new p.text s.front p.wrote s.wrote;
    }

-- a fault after lines that were played
pub stopped_after : (number then : ℕ) (a b : Progress) (xs rest all : List (List ℕ)) (old mid new : Option (List ℕ)) (e : ReplayFault)
    → Played number a b xs old mid → then ≡ number + length xs → all ≡ xs ++ rest
    → StoppedAt then b rest mid new e → StoppedAt number a all old new e
stopped_after number then a b xs rest all old mid new (faults.Config fault) p counted is s =
    ended_after number then a b xs rest all old mid new (Some (InConfiguration fault)) p counted is s
stopped_after number then a b xs rest all old mid new (faults.Wire fault) p counted is s =
    ended_after number then a b xs rest all old mid new (Some (InText fault)) p counted is s
stopped_after number then a b xs rest all old mid new (faults.Script line) p counted is s =
    ended_after number then a b xs rest all old mid new (Some (InLine line)) p counted is s
stopped_after number then a b xs rest all old mid new faults.Read p counted is s = absurd s
stopped_after number then a b xs rest all old mid new faults.Write p counted is s = cut_after number then a b xs rest all old mid new p counted is s
stopped_after number then a b xs rest all old mid new faults.OutOfMemory p counted is s = broken_after number then a b xs rest all old mid new p counted is s

-- nothing was written, of some lines
pub nothing_played : (number : ℕ) (progress : Progress) (lines : List (List ℕ)) (old : Option (List ℕ)) → Broken number progress lines old old
nothing_played number progress lines old = record { first = []; rest = lines; split = refl; wrote = appends_nothing old }

ends_here : (number : ℕ) (progress : Progress) (line : List ℕ) (rest : List (List ℕ)) (old : Option (List ℕ)) (fault : ScriptFault)
    → line_taken number progress line ≡ Err fault
    → Ended number progress (line ∷ rest) (Some fault) old old
ends_here number progress line rest old fault is =
    let whole : replay_from number progress (line ∷ rest) ≡ record { text = []; fault = Some fault } =
    ap (λ (r : Result (Progress × List ℕ) ScriptFault). and_then r (λ (b : Progress). replay_from (number + 1) b rest)) is in
    record { ends = ap (λ (r : Replayed). r.fault) whole; wrote = rw whole (appends_nothing old) }

-- the first line has a fault
pub line_stops : (number : ℕ) (progress : Progress) (line : List ℕ) (rest : List (List ℕ)) (old : Option (List ℕ)) (e : ReplayFault)
    → HasFault (line_taken number progress line) e
    → StoppedAt number progress (line ∷ rest) old old e
line_stops number progress line rest old (faults.Config fault) has = ends_here number progress line rest old (InConfiguration fault) has
line_stops number progress line rest old (faults.Wire fault) has = ends_here number progress line rest old (InText fault) has
line_stops number progress line rest old (faults.Script at) has = ends_here number progress line rest old (InLine at) has
line_stops number progress line rest old faults.Read has = absurd has
line_stops number progress line rest old faults.Write has = absurd has
line_stops number progress line rest old faults.OutOfMemory has = nothing_played number progress (line ∷ rest) old

-- what the first line comes to was not written whole
pub line_cut : (number : ℕ) (progress : Progress) (next : Progress) (line text front lost : List ℕ) (rest : List (List ℕ)) (old new : Option (List ℕ))
    → line_taken number progress line ≡ Ok (next, text) → text ≡ front ++ lost
    → Appends old new front → Cut number progress (line ∷ rest) old new
line_cut number progress next line text front lost rest old new is split wrote =
    let last = replay_from (number + 1) next rest in
    let whole : replay_from number progress (line ∷ rest) ≡ before text last =
    ap (λ (r : Result (Progress × List ℕ) ScriptFault). and_then r (λ (b : Progress). replay_from (number + 1) b rest)) is in
    record {
      front = front;
      lost = lost ++ last.text;
      split = ap (λ (r : Replayed). r.text) whole ∙ ap (λ (t : List ℕ). t ++ last.text) split ∙ append_assoc front lost last.text;
      wrote = wrote;
    }

-- lines that were played, with nothing behind them
played_alone : (number : ℕ) (first next : Progress) (lines : List (List ℕ)) (old new : Option (List ℕ)) (p : Played number first next lines old new)
    → replay_from number first lines ≡ record { text = p.text; fault = fault_at_end next }
played_alone number first next lines old new p =
    ap (replay_from number first) (sym (append-nil lines)) ∙ replays_on number first next lines [] p.text p.took
    ∙ ap (λ (t : List ℕ). record { text = t; fault = fault_at_end next }) (append-nil p.text)

pub all_played : (number : ℕ) (first next : Progress) (lines : List (List ℕ)) (old new : Option (List ℕ))
    → Played number first next lines old new → Appends old new (replay_from number first lines).text
all_played number first next lines old new p = rw (played_alone number first next lines old new p) p.wrote

-- the input ends behind lines that were played
pub ends_played : (number : ℕ) (first next : Progress) (lines : List (List ℕ)) (old new : Option (List ℕ)) (fault : Option ScriptFault)
    → Played number first next lines old new → fault_at_end next ≡ fault → Ended number first lines fault old new
ends_played number first next lines old new fault p end = record {
  ends = ap (λ (r : Replayed). r.fault) (played_alone number first next lines old new p) ∙ end;
  wrote = all_played number first next lines old new p;
}
