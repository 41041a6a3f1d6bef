-- The trace of a book's history, line by line.
use Rattle.std.proofs.Common.{◌≡◌, ℕ, zero, suc, ◌+◌, ◌-◌, ◌<◌, Bool, List, [], ◌∷◌, ◌++◌, length, reverse, drop}
use Rattle.std.proofs.Common.{get_or, Option, refl, sym, ap, ap₂, subst, ◌∙◌, arith, append_assoc, drop-cons}
use Rattle.std.specs.Io.KnownBytes.{Appends}
use Rattle.std.proofs.lemmas.List.{append-nil, get_or-reverse, reverse-reverse}
use Rattle.arn_ids.specs.declared.config.Config.{Config}
use Rattle.call_types.specs.declared.call.Entry.{Entry}
use Rattle.account_book.specs.Book.{Kept}
use Rattle.script_replay.proofs.Written.{appends_nothing, appends_more}
use Rattle.json.specs.Print.{print}
use Rattle.json.specs.Token.{Token}
use Rattle.fleet.specs.Reaches.{before}
use Rattle.trace.specs.Object.{object_text, object_tokens, trace, trace_from}
use Rattle.trace_replay.specs.Lines.{first_lines, LineAdded, Underway, Flushed}
use Rattle.trace_replay.specs.Traces.{CutShort, book_trace}

-- ---- the first entries

all_dropped : (h : List Entry) → drop (length h) h ≡ []
all_dropped [] = refl
all_dropped (entry ∷ h) = all_dropped h

pub none_before : (h : List Entry) → before h 0 ≡ []
none_before h = let whole : length h - 0 ≡ length h = omega arith in ap (λ (n : ℕ). drop n h) whole ∙ all_dropped h

all_before : (h : List Entry) → before h (length h) ≡ h
all_before h = let none : length h - length h ≡ 0 = omega arith in ap (λ (n : ℕ). drop n h) none

one_more : (h : List Entry) (ticket : ℕ) (d : Entry) → ticket < length h → before h (ticket + 1) ≡ get_or (reverse h) ticket d ∷ before h ticket
one_more h ticket d within =
    let n : ℕ = length h - (ticket + 1) in
    let next : suc n ≡ length h - ticket = omega (arith, within) in
    let place : length h - 1 - ticket ≡ n = omega (arith, within) in
    drop-cons h n d (omega (arith, within))
    ∙ ap₂ (λ (x : Entry) (k : ℕ). x ∷ drop k h) (sym (get_or-reverse h ticket d within ∙ ap (λ (k : ℕ). get_or h k d) place)) next

-- the lines of all entries begin with those of the oldest
lines_of_oldest : (bodies : Bool) (config : Config) (salt : ℕ) (h : List Entry) (n : ℕ) (k : List Entry)
    → (more : List ℕ) × (trace_from bodies config salt h k ≡ trace_from bodies config salt h (drop n k) ++ more)
lines_of_oldest bodies config salt h zero k = ([], sym (append-nil (trace_from bodies config salt h k)))
lines_of_oldest bodies config salt h (suc n) [] = ([], refl)
lines_of_oldest bodies config salt h (suc n) (entry ∷ older) =
    let rest = lines_of_oldest bodies config salt h n older in
    let line : List ℕ = object_text bodies config salt h older entry in
    (rest.0 ++ line, ap (λ (l : List ℕ). l ++ line) rest.1 ∙ append_assoc (trace_from bodies config salt h (drop n older)) rest.0 line)

-- ---- one line more

-- the line of an object
pub line_of : (bodies : Bool) (config : Config) (salt : ℕ) (h older : List Entry) (entry : Entry) (old new : List ℕ) (object : List Token)
    → object ≡ object_tokens bodies config salt h older entry → new ≡ old ++ (print object ++ 10 ∷ [])
    → new ≡ old ++ object_text bodies config salt h older entry
unfolding object_text
line_of bodies config salt h older entry old new object is added = added ∙ ap (λ (ts : List Token). old ++ (print ts ++ 10 ∷ [])) is

some_entry : (h : List Entry) (n : ℕ) → n < length h → Entry
some_entry [] n within = absurd (omega arith)
some_entry (entry ∷ h) n within = entry

pub line_added : (bodies : Bool) (book : Kept) (entries : List Entry) (ticket : ℕ) (old new : List ℕ)
    → entries ≡ reverse book.history → ticket < length book.history
    → ((d : Entry) → new ≡ old ++ object_text bodies book.config book.salt (reverse entries) (before (reverse entries) ticket) (get_or entries ticket d))
    → LineAdded bodies book ticket old new
line_added bodies book entries ticket old new is within added =
    let h : List Entry = book.history in
    let d : Entry = some_entry h ticket within in
    let back : reverse entries ≡ h = ap reverse is ∙ reverse-reverse h in
    record {
      line = object_text bodies book.config book.salt h (before h ticket) (get_or (reverse h) ticket d);
      grown = added d ∙ ap₂ (λ (k es : List Entry). old ++ object_text bodies book.config book.salt k (before k ticket) (get_or es ticket d)) back is;
      next = ap (trace_from bodies book.config book.salt h) (one_more h ticket d within);
    }

-- ---- what was written

pub begins : (bodies : Bool) (book : Kept) (old : Option (List ℕ)) → Underway bodies book 0 [] old old
begins bodies book old =
    record { text = []; whole = ap (trace_from bodies book.config book.salt book.history) (none_before book.history); wrote = appends_nothing old }

pub goes_on : (bodies : Bool) (book : Kept) (ticket : ℕ) (pending grown left : List ℕ) (old mid new : Option (List ℕ))
    → Underway bodies book ticket pending old mid → LineAdded bodies book ticket pending grown
    → Flushed grown left mid new
    → Underway bodies book (ticket + 1) left old new
goes_on bodies book ticket pending grown left old mid new u a f = record {
  text = u.text ++ f.text;
  whole =
      a.next ∙ ap (λ (l : List ℕ). l ++ a.line) u.whole ∙ append_assoc u.text pending a.line
      ∙ ap (λ (l : List ℕ). u.text ++ l) (sym a.grown ∙ f.whole) ∙ sym (append_assoc u.text f.text left);
  wrote = appends_more old mid new u.text f.text u.wrote f.wrote;
}

pub stops_here : (bodies : Bool) (book : Kept) (ticket : ℕ) (pending : List ℕ) (old new : Option (List ℕ))
    → Underway bodies book ticket pending old new → CutShort (book_trace bodies book) old new
unfolding trace
stops_here bodies book ticket pending old new u =
    let rest = lines_of_oldest bodies book.config book.salt book.history (length book.history - ticket) book.history in
    record {
      front = u.text;
      lost = pending ++ rest.0;
      split = rest.1 ∙ ap (λ (l : List ℕ). l ++ rest.0) u.whole ∙ append_assoc u.text pending rest.0;
      wrote = u.wrote;
    }

pub stops_flushing : (bodies : Bool) (book : Kept) (ticket : ℕ) (pending grown : List ℕ) (old mid new : Option (List ℕ))
    → Underway bodies book ticket pending old mid → LineAdded bodies book ticket pending grown → CutShort grown mid new
    → CutShort (book_trace bodies book) old new
stops_flushing bodies book ticket pending grown old mid new u a c =
    stops_here bodies book (ticket + 1) c.lost old new
    (goes_on bodies book ticket pending grown c.lost old mid new u a (record { text = c.front; whole = c.split; wrote = c.wrote }))

pub ends : (bodies : Bool) (book : Kept) (ticket : ℕ) (pending : List ℕ) (old mid new : Option (List ℕ))
    → ticket ≡ length book.history → Underway bodies book ticket pending old mid → Appends mid new pending
    → Appends old new (book_trace bodies book)
unfolding trace
ends bodies book ticket pending old mid new all u last =
    let whole : first_lines bodies book ticket ≡ trace_from bodies book.config book.salt book.history book.history =
    ap (λ (n : ℕ). first_lines bodies book n) all ∙ ap (trace_from bodies book.config book.salt book.history) (all_before book.history) in
    subst (Appends old new) (sym u.whole ∙ whole) (appends_more old mid new u.text pending u.wrote last)

pub stops_ending : (bodies : Bool) (book : Kept) (ticket : ℕ) (pending part lost : List ℕ) (old mid new : Option (List ℕ))
    → Underway bodies book ticket pending old mid → pending ≡ part ++ lost → Appends mid new part
    → CutShort (book_trace bodies book) old new
stops_ending bodies book ticket pending part lost old mid new u split wrote =
    stops_here bodies book ticket lost old new (record {
      text = u.text ++ part;
      whole = u.whole ∙ ap (λ (l : List ℕ). u.text ++ l) split ∙ sym (append_assoc u.text part lost);
      wrote = appends_more old mid new u.text part u.wrote wrote;
    })
