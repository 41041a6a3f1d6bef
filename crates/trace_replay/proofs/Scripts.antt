-- The trace of a script, and its fault.
use Rattle.std.proofs.Common.{◌≡◌, ℕ, ◌+◌, Bool, List, [], ◌∷◌, Option, Some, None, IfSome, Result, Ok, Err, refl, sym, ap, subst, ◌∙◌}
use Rattle.std.specs.Str.Lines.{lines}
use Rattle.account_book.specs.Book.{Kept}
use Rattle.account_book.specs.Run.{ScriptFault, InConfiguration, InText, InLine, Progress, AtStart, AfterForm, Taking}
use Rattle.account_book.specs.Run.{Replayed, and_then, line_taken, replay_from, run}
use Rattle.script_replay.specs.Replays.{LeadsTo, lines_taken, onto, then_taken}
use Rattle.script_replay.specs.Replays as replays
use Rattle.script_replay.specs.declared.fault.ReplayFault.{ReplayFault}
use Rattle.script_replay.specs.declared.fault.ReplayFault.TheVariants as faults
use Rattle.script_replay.proofs.Written.{appends_nothing}
use Rattle.trace_replay.specs.Lines.{Fails}
use Rattle.trace_replay.specs.Traces.{CutShort, Traced, Stops, book_trace, trace_of, trace_run}

-- ---- its fault is that of its replay

-- what is written before it changes no fault
fault_onto : (bodies : Bool) (text : List ℕ) (r : Result (Progress × List ℕ) ScriptFault) → (trace_of bodies (onto text r)).fault ≡ (trace_of bodies r).fault
fault_onto bodies text (Err fault) = refl
fault_onto bodies text (Ok (next, more)) = refl

fault_then : (bodies : Bool) (r : Result (Progress × List ℕ) ScriptFault)
    (rest : Progress → Result (Progress × List ℕ) ScriptFault) (others : Progress → Replayed)
    → ((next : Progress) → (trace_of bodies (rest next)).fault ≡ (others next).fault)
    → (trace_of bodies (then_taken r rest)).fault ≡ (and_then r others).fault
fault_then bodies (Err fault) rest others same = refl
fault_then bodies (Ok (next, text)) rest others same = fault_onto bodies text (rest next) ∙ same next

fault_from : (bodies : Bool) (number : ℕ) (progress : Progress) (taken : List (List ℕ))
    → (trace_of bodies (lines_taken number progress taken)).fault ≡ (replay_from number progress taken).fault
fault_from bodies number progress [] = refl
fault_from bodies number progress (line ∷ rest) =
    fault_then bodies (line_taken number progress line) (λ next. lines_taken (number + 1) next rest)
    (λ next. replay_from (number + 1) next rest) (λ next. fault_from bodies (number + 1) next rest)

pub same_fault : (bodies : Bool) (input : List ℕ) → (trace_run bodies input).fault ≡ (run input).fault
same_fault bodies input = fault_from bodies 1 AtStart (lines input)

-- ---- a script with a fault has no trace

no_trace : (bodies : Bool) (r : Result (Progress × List ℕ) ScriptFault) (fault : ScriptFault)
    → (trace_of bodies r).fault ≡ Some fault → (trace_of bodies r).text ≡ []
no_trace bodies (Err found) fault is = refl
no_trace bodies (Ok (AtStart, text)) fault is = refl
no_trace bodies (Ok (AfterForm, text)) fault is = refl
no_trace bodies (Ok (Taking reserves book, text)) fault is = cc

faulty : (bodies : Bool) (input : List ℕ) (fault : ScriptFault) (old : Option (List ℕ)) → (run input).fault ≡ Some fault
    → Traced bodies input (Some fault) old old
faulty bodies input fault old is =
    let same : (trace_run bodies input).fault ≡ Some fault = same_fault bodies input ∙ is in
    record { ends = same; wrote = rw (no_trace bodies (lines_taken 1 AtStart (lines input)) fault same) (appends_nothing old) }

nothing_yet : (text : List ℕ) (old : Option (List ℕ)) → CutShort text old old
nothing_yet text old = record { front = []; lost = text; split = refl; wrote = appends_nothing old }

-- a fault while the script is read
stops_so : (bodies : Bool) (input : List ℕ) (left old : Option (List ℕ)) (e : ReplayFault)
    → replays.Stops input left None None e → Stops bodies input left old old e
stops_so bodies input left old (faults.Config fault) stopped = faulty bodies input (InConfiguration fault) old stopped.ends
stops_so bodies input left old (faults.Wire fault) stopped = faulty bodies input (InText fault) old stopped.ends
stops_so bodies input left old (faults.Script line) stopped = faulty bodies input (InLine line) old stopped.ends
stops_so bodies input left old faults.Read stopped = (stopped, appends_nothing old)
stops_so bodies input left old faults.Write stopped = nothing_yet (trace_run bodies input).text old
stops_so bodies input left old faults.OutOfMemory stopped = nothing_yet (trace_run bodies input).text old

pub stops_reading : (bodies : Bool) (first left old : Option (List ℕ)) (e : ReplayFault)
    → IfSome first (λ input. replays.Stops input left None None e)
    → IfSome first (λ input. Stops bodies input left old old e)
stops_reading bodies None left old e stopped = tt
stops_reading bodies (Some input) left old e stopped = stops_so bodies input left old e stopped

-- ---- the book that it leads to

led : (bodies : Bool) (input : List ℕ) (book : Kept) → LeadsTo input book → trace_run bodies input ≡ record { text = book_trace bodies book; fault = None }
led bodies input book leads = ap (trace_of bodies) leads.took

fails_so : (bodies : Bool) (input : List ℕ) (book : Kept) (left old new : Option (List ℕ)) (e : ReplayFault)
    → LeadsTo input book → Fails bodies book old new e → Stops bodies input left old new e
fails_so bodies input book left old new (faults.Config fault) leads failed = absurd failed
fails_so bodies input book left old new (faults.Wire fault) leads failed = absurd failed
fails_so bodies input book left old new (faults.Script line) leads failed = absurd failed
fails_so bodies input book left old new faults.Read leads failed = absurd failed
fails_so bodies input book left old new faults.Write leads failed =
    subst (λ (text : List ℕ). CutShort text old new) (sym (ap (λ (r : Replayed). r.text) (led bodies input book leads))) failed
fails_so bodies input book left old new faults.OutOfMemory leads failed =
    subst (λ (text : List ℕ). CutShort text old new) (sym (ap (λ (r : Replayed). r.text) (led bodies input book leads))) failed

-- a fault while it is written
pub stops_writing : (bodies : Bool) (first left : Option (List ℕ)) (book : Kept) (old new : Option (List ℕ)) (e : ReplayFault)
    → IfSome first (λ input. LeadsTo input book) → Fails bodies book old new e
    → IfSome first (λ input. Stops bodies input left old new e)
stops_writing bodies None left book old new e leads failed = tt
stops_writing bodies (Some input) left book old new e leads failed = fails_so bodies input book left old new e leads failed
