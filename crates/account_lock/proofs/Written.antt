-- What the pen writes at a step, and what is seen of it.
use Rattle.std.proofs.lemmas.List.{append-nil}
use Rattle.std.proofs.Common.{◌≡◌, ℕ, ◌+◌, ◌↔◌, true, false, List, [], ◌∷◌, ◌++◌, Option, length}
use Rattle.std.proofs.Common.{sym, ap, ◌∙◌, subst, arith, refl}
use Rattle.account_book.specs.Premature.{premature}
use Rattle.account_book.specs.Reached.{IsReached}
use Rattle.account_book.specs.declared.book.Refusal.TheVariants.{JournalFull}
use Rattle.arn_ids.specs.declared.config.Config.{Config}
use Rattle.call_model.specs.Counts.{full}
use Rattle.call_model.specs.History.{call_of}
use Rattle.call_model.specs.Next.{added, next, entry_of, moment_at, expiries, due}
use Rattle.call_model.proofs.AfterEntry.{call_of_new}
use Rattle.call_types.specs.Within.{IsWithin}
use Rattle.call_types.specs.declared.answer.Answer.{Answer}
use Rattle.call_types.specs.declared.call.Call.{Call}
use Rattle.call_types.specs.declared.call.Entry.{Entry}
use Rattle.call_types.specs.declared.head.Head.{Head}
use Rattle.shared_history.specs.Sharing.{Extends}
use Rattle.usage_ledger.specs.Keeping.{Kept}
use Rattle.usage_ledger.specs.Tallies.{Held}
use Rattle.account_lock.specs.Bells.{given}
use Rattle.account_lock.specs.Desks.{Opened}
use Rattle.account_lock.specs.Shown.{Sees}
use Rattle.account_lock.specs.Steps.{IsHandedBack, IsRefusal, IsStep}
use Rattle.account_lock.specs.Submits.{IsNotTaken, IsTurnedAway, Took}
use Rattle.account_lock.specs.declared.desk.Refused.{Refused as Back}
use Rattle.account_lock.specs.declared.desk.Step.{Step}
use Rattle.account_lock.specs.declared.desk.unless_premature.NotTaken.{NotTaken}
use Rattle.account_lock.specs.declared.desk.unless_premature.NotTaken.TheVariants.{Premature, Refused}
use Rattle.account_lock.proofs.Stepping.{next_is, one_call_within}

-- the next history goes on where the one before it ends, which the pen wrote
pub goes_on : (config : Config) (h written now_there : List Entry) (now : ℕ) (call : Call) → h ≡ written
    → now_there ≡ next config h now call → Extends written now_there
goes_on config h written now_there now call is step =
    (added config h now call, step ∙ (next_is config h now call ∙ ap (λ l. added config h now call ++ l) is))

newest : (entry : Entry) (h : List Entry) (ticket : ℕ) → ticket + 1 ≡ length (entry ∷ h) → call_of (entry ∷ h) ticket ≡ entry.call
newest entry h ticket at = let same : length h ≡ ticket = omega (arith, at) in subst (λ (t : ℕ). call_of (entry ∷ h) t ≡ entry.call) same (call_of_new entry h)

-- its newest call is the one that was taken
stands : (config : Config) (h : List Entry) (now : ℕ) (call : Call) (ticket : ℕ)
    → ticket + 1 ≡ length (next config h now call) → call_of (next config h now call) ticket ≡ call
unfolding next added
stands config h now call ticket at =
    let m = moment_at h now in
    let es = expiries config m (due config h m) h in
    let entry = entry_of config (es ++ h) m call in
    newest entry (es ++ h) ticket at

-- what holds of a desk holds by the other names of its configuration, its limit and its history
pub renamed : (P : Config → ℕ → List Entry → Type 0) {config other : Config} {limit most : ℕ} {h token : List Entry}
    → config ≡ other → limit ≡ most → h ≡ token → P config limit h → P other most token
renamed P c m f holds = coe 0 1 (i. P (c i) (m i) (f i)) holds

-- what is seen of a desk
pub sees : {config other : Config} {limit most : ℕ} {h written before token : List Entry} → config ≡ other
    → limit ≡ most → IsReached config limit h → h ≡ written → token ≡ written → Extends before written → Sees other most before token
sees {before = before} c m reached is shown later = record {
  later = subst (Extends before) (sym shown) later;
  reached = renamed (λ k n l. IsReached k n l) c m (is ∙ sym shown) reached;
}

-- A step of a desk took its call, by the other names; and what holds of the history before it holds there too.
module _ {B : Type 0} {notes : Kept → ℕ → Answer → Kept → Type 0} {makes : Kept → ℕ → Head → Kept → Type 0}
    (Q : Config → List Entry → Type 0) where
  pub took : {other : Config} {most : ℕ} {had written token : List Entry} {before after : Held} {now : ℕ} {call : Call}
      {bell : Option B} {step : Step B} {left : Opened B} (desk : Opened B) → desk.book.config ≡ other
      → desk.book.max_entries ≡ most → IsReached desk.book.config desk.book.max_entries desk.book.history
      → desk.book.history ≡ written → Extends had written → token ≡ left.book.history → IsWithin other call
      → IsStep notes makes desk before now call bell step left after → Q desk.book.config desk.book.history
      → (t : Took other most notes makes had before now call step.ticket token after) × Q other t.taken.before
  took {had = had} {before = before} {after = after} {now = now} {call = call} {step = step} desk c m reached is later shown
      within made q =
      let config = desk.book.config in
      let h = desk.book.history in
      let gone = ap (λ d. d.book.history) made.taken in
      let newest = made.newest ∙ ap length gone in
      renamed (λ k n l. (t : Took k n notes makes had before now call step.ticket l after) × Q k t.taken.before)
      c m (sym (shown ∙ gone)) (
        record {
          taken = record {
            before = h;
            sees = record { later = subst (Extends had) (sym is) later; reached = reached };
            room = made.room;
            goes_on = refl;
            newest = newest;
            stands = stands config h now call step.ticket newest;
          };
          counted = ap (λ (t : Held). t.counts.calls) made.counts ∙ ap (λ (n : ℕ). before.counts.calls + n)
              (one_call_within config h now call (subst (λ (k : Config). IsWithin k call) (sym c) within));
          parts = (ap (λ (t : Held). t.parts) made.counts, ap (λ (t : Held). t.joined) made.counts);
          keeps = (given (added config h now call), made.keeps.0, made.keeps.1, made.keeps.2);
        },
        q,
      )

-- a refusal of a desk
pub turned_away : {B : Type 0} {other : Config} {most : ℕ} {had token : List Entry} {call : Call} {bell : Option B} {back : Back B}
    (desk : Opened B) → desk.book.config ≡ other → desk.book.max_entries ≡ most → desk.book.history ≡ token → Sees other most had token
    → IsRefusal desk call bell back → IsTurnedAway other most had call back.refusal token
turned_away {call = call} {back = back} desk c m shown seen refused = record {
  sees = seen;
  exactly = renamed (λ k n l. (back.refusal ≡ JournalFull) ↔ (full k n l call ≡ true)) c m shown refused.1;
}

-- a call that a desk handed back
pub not_taken : {B : Type 0} {other : Config} {most : ℕ} {had token : List Entry} (now : ℕ) (call : Call) (bell : Option B)
    (back : NotTaken B) (desk : Opened B) → desk.book.config ≡ other → desk.book.max_entries ≡ most
    → desk.book.history ≡ token → Sees other most had token → IsHandedBack desk now call bell back
    → IsNotTaken other most had now call bell back token
not_taken now call bell (Premature other its) desk c m shown seen back =
    (back.0, back.1, seen, renamed (λ k n l. premature k l now call ≡ true) c m shown back.2)
not_taken now call bell (Refused refused) desk c m shown seen back = (
  back.0.0,
  turned_away desk c m shown seen back.0,
  renamed (λ k n l. premature k l now call ≡ false) c m shown back.1,
)

-- nothing is a beginning of every history
pub none : (h : List Entry) → Extends [] h
none h = (h, sym (append-nil h))
