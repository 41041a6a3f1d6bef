-- What a call that was taken leaves of a desk.
use Rattle.std.proofs.Common.{◌≡◌, ℕ, ◌+◌, ◌-◌, ◌≤◌, ◌++◌, true, List, drop, length, length-append, reverse, Option, refl, sym, ap, ◌∙◌, arith}
use Rattle.std.specs.List.{list_all}
use Rattle.call_types.specs.declared.call.Call.{Call}
use Rattle.call_types.specs.declared.stats.Stats.{Stats}
use Rattle.call_model.specs.Counts.{admitted, throttled, failed, stats}
use Rattle.call_model.specs.History.{pending}
use Rattle.call_model.specs.Next.{IsLegal}
use Rattle.call_model.proofs.NextLegal.{legal_next}
use Rattle.call_types.specs.Within.{IsWithin}
use Rattle.account_book.specs.Book.{Kept as Booked}
use Rattle.account_book.proofs.Reaching.{no_expiry}
use Rattle.usage_ledger.specs.declared.counts.Counts.{Counts}
use Rattle.usage_ledger.specs.Counts.{counts, plus}
use Rattle.account_lock.specs.Bells.{are_rising, bells_after, own_bell, answers_of, given}
use Rattle.account_lock.specs.Counting.{counts_of}
use Rattle.account_lock.specs.Desks.{IsDesk, opened, added_to, next_book}
use Rattle.account_lock.proofs.Stepping.{next_is, newest, risen, rises_are, counts_next}
use Rattle.account_lock.proofs.Waiting.{still_waiting}
use Rattle.account_lock.proofs.Searching.{after_rise, with_own}

-- the answers of what was added
pub behind : (book after : Booked) (now : ℕ) (call : Call) (n : ℕ) → after ≡ next_book book now call
    → n ≡ length book.history → answers_of (drop n (reverse after.history)) ≡ given (added_to book now call)
behind book after now call n step at =
    ap answers_of
    (newest (added_to book now call) book.history after.history n (ap (λ (b : Booked). b.history) step ∙ next_is book.config book.history now call) at)

pub within : (book after : Booked) (now : ℕ) (call : Call) (n : ℕ) → after ≡ next_book book now call → n ≡ length book.history → n ≤ length after.history
within book after now call n step at =
    let len : length after.history ≡ length (added_to book now call) + length book.history = ap length (ap (λ (b : Booked). b.history) step ∙ next_is book.config book.history now call) ∙ length-append (added_to book now call) book.history in
    omega (arith, len, at)

pub risen_by : (book after : Booked) (now : ℕ) (call : Call) (before : Stats) → before ≡ stats book.config book.history → after ≡ next_book book now call
    → (before.admitted ≤ admitted after.history) × (before.throttled ≤ throttled after.history) × (before.failed ≤ failed after.history)
risen_by book after now call before was step =
    let r = risen book.config book.history now call in
    coe 1 0
    (i. ((was i).admitted ≤ admitted (step i).history) × ((was i).throttled ≤ throttled (step i).history) × ((was i).failed ≤ failed (step i).history))
    (r.admitted, r.throttled, r.failed)

pub rise_by : (book after : Booked) (now : ℕ) (call : Call) (before : Stats) → before ≡ stats book.config book.history
    → after ≡ next_book book now call → IsWithin book.config call
    → counts 1 (admitted after.history - before.admitted) (throttled after.history - before.throttled) (failed after.history - before.failed) ≡ counts_of (added_to book now call)
rise_by book after now call before was step w =
    (λ i. counts 1 (admitted (step i).history - (was i).admitted) (throttled (step i).history - (was i).throttled) (failed (step i).history - (was i).failed))
    ∙ rises_are book.config book.history now call w

-- all bells are in rising order, that of the call behind those of the tickets that waited before
pub rising_by : {B : Type 0} (book after : Booked) (now : ℕ) (call : Call) (t : ℕ) (bells stored : List (ℕ × B)) (bell : Option B) (totals : Counts)
    → IsDesk (opened book bells totals) → after ≡ next_book book now call → t + 1 ≡ length after.history
    → stored ≡ bells ++ own_bell t bell → are_rising stored ≡ true
rising_by book after now call t bells stored bell totals d step last all =
    ap are_rising all ∙ with_own book.config book.history now call t bells bell (last ∙ ap (λ (b : Booked). length b.history) step) d.waiting d.rising

-- what the type of a desk keeps is kept
pub desk_kept : {B : Type 0} (book after : Booked) (now : ℕ) (call : Call) (t : ℕ) (bells left : List (ℕ × B)) (bell : Option B) (totals sums : Counts)
    → IsDesk (opened book bells totals) → IsWithin book.config call → after ≡ next_book book now call → t + 1 ≡ length after.history
    → left ≡ bells_after (given (added_to book now call)) (bells ++ own_bell t bell) → sums ≡ plus totals (counts_of (added_to book now call))
    → IsDesk (opened after left sums)
desk_kept book after now call t bells left bell totals sums d w step last stay sum =
    let called = no_expiry book.config call w in
    let h = book.history in
    record {
      legal = coe 1 0 (i. IsLegal (step i).config (step i).history) (legal_next book.config h now call d.legal called);
      waiting =
          coe 1 0 (i. list_all (λ b. pending (step i).history b.0) (stay i) ≡ true)
          (still_waiting book.config h now call t bells bell d.legal called (last ∙ ap (λ (b : Booked). length b.history) step) d.waiting);
      rising =
          ap are_rising stay
          ∙ after_rise (given (added_to book now call)) (bells ++ own_bell t bell)
          (rising_by book after now call t bells (bells ++ own_bell t bell) bell totals d step last refl);
      counted =
          sum ∙ ap (λ (c : Counts). plus c (counts_of (added_to book now call))) d.counted
          ∙ counts_next book.config h now call ∙ sym (ap (λ (b : Booked). counts_of b.history) step);
    }
