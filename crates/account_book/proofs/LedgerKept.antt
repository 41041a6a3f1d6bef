-- What is kept beside the entries, after one more.
use Rattle.std.proofs.Common.{◌≡◌, ℕ, ◌+◌, ◌-◌, ◌<◌, ◌≤◌, Bool, true, false, List, [], ◌∷◌, ◌++◌, length, reverse, All}
use Rattle.std.proofs.Common.{None, sym, refl, ap, ◌∙◌, arith, cond, count_by, is_some, length-append, ◌||◌}
use Rattle.std.proofs.lemmas.List.{reverse-append}
use Rattle.std.proofs.lemmas.List.Sums.{count_by-le-length}
use Rattle.call_types.specs.declared.answer.Answer.{Answer}
use Rattle.call_types.specs.declared.call.Entry.{Entry}
use Rattle.call_model.specs.Counts.{admitted, throttled, failed, is_throttle, is_failure}
use Rattle.call_model.specs.History.{answer_of, is_stop}
use Rattle.call_model.proofs.AfterEntry.{admitted_cons, answers_that_cons}
use Rattle.call_model.specs.CallCounts.{request_count}
use Rattle.account_book.specs.declared.ledger.Ledger.TheInside.{Inside}
use Rattle.account_book.specs.declared.totals.Counters.{Counters}
use Rattle.account_book.specs.Indexes.{noted}
use Rattle.account_book.specs.Ledgers.{IsLedger, totals, answer_limit}
use Rattle.account_book.proofs.Indexed.{answered_next}

pub behind : {A : Type 0} (xs : List A) (x : A) → reverse (xs ++ x ∷ []) ≡ x ∷ reverse xs
behind xs x = reverse-append xs (x ∷ [])

-- one more entry was added, with what is kept of it
pub record IsAdded (l after : Inside) (entry : Entry) (count : ℕ) : Type 0 where
  pub entries : after.entries ≡ (l.entries.0 ++ entry ∷ [], l.entries.1 - 1)
  pub counts : after.counts ≡ (l.counts.0 ++ count ∷ [], l.counts.1 - 1)
  pub given : after.given ≡ (noted entry.answers (l.given.0 ++ None ∷ []), l.given.1 - 1)
  pub admitted : after.totals.admitted ≡ l.totals.admitted + cond (is_some entry.place) 1 0
  pub throttled : after.totals.throttled ≡ l.totals.throttled + count_by (λ a. is_throttle a.1) entry.answers
  pub failed : after.totals.failed ≡ l.totals.failed + count_by (λ a. is_failure a.1) entry.answers
  pub stopped : after.stopped ≡ (is_stop entry.call || l.stopped)

pub ledger_kept : (l after : Inside) (entry : Entry) (count : ℕ) → IsLedger l → IsAdded l after entry count
    → 0 < l.entries.1 → count ≡ request_count (entry ∷ reverse l.entries.0) entry.call
    → All (λ a. a.0 ≤ length (reverse l.entries.0)) entry.answers → length entry.answers ≤ answer_limit
    → answer_of (reverse l.entries.0) (length (reverse l.entries.0)) ≡ None → IsLedger after
ledger_kept l after entry count k a room is tickets few fresh = record {
  counts_are = rw (a.counts, a.entries, behind l.counts.0 count, behind l.entries.0 entry, is, k.counts_are) refl;
  given_is = rw (a.given, a.entries, behind l.entries.0 entry, k.given_is) (answered_next entry (reverse l.entries.0) fresh tickets);
  totals_are = rw (a.entries, behind l.entries.0 entry) (by_parts after.totals (totals (entry ∷ reverse l.entries.0)) admitted_is throttled_is failed_is);
  few_admitted = rw (a.entries, length-append l.entries.0 (entry ∷ [])) (omega (arith, a.admitted, k.few_admitted, one (is_some entry.place)));
  few_throttled =
      rw (a.entries, length-append l.entries.0 (entry ∷ []))
      (omega (arith, a.throttled, k.few_throttled, count_by-le-length (λ (b : ℕ × Answer). is_throttle b.1) entry.answers, few));
  few_failed =
      rw (a.entries, length-append l.entries.0 (entry ∷ []))
      (omega (arith, a.failed, k.few_failed, count_by-le-length (λ (b : ℕ × Answer). is_failure b.1) entry.answers, few));
  stopped_is = rw (a.stopped, a.entries, behind l.entries.0 entry, k.stopped_is) refl;
  counts_room = rw (a.counts, a.entries, k.counts_room) refl;
  given_room = rw (a.given, a.entries, k.given_room) refl;
  few = rw (a.entries, length-append l.entries.0 (entry ∷ [])) (omega (arith, k.few, room));
}
  where
    by_parts : (x y : Counters) → x.admitted ≡ y.admitted → x.throttled ≡ y.throttled → x.failed ≡ y.failed → x ≡ y
    by_parts x y p q r = λ i. record { admitted = p i; throttled = q i; failed = r i }

    one : (b : Bool) → cond b 1 0 ≤ 1
    one true = omega arith
    one false = omega arith

    plus : (m n : ℕ) → m + n ≡ n + m
    plus m n = omega arith

    admitted_is : after.totals.admitted ≡ admitted (entry ∷ reverse l.entries.0)
    admitted_is =
        a.admitted ∙ ap (λ (t : Counters). t.admitted + cond (is_some entry.place) 1 0) k.totals_are
        ∙ plus (admitted (reverse l.entries.0)) (cond (is_some entry.place) 1 0)
        ∙ sym (admitted_cons entry (reverse l.entries.0))

    throttled_is : after.totals.throttled ≡ throttled (entry ∷ reverse l.entries.0)
    throttled_is =
        a.throttled
        ∙ ap (λ (t : Counters). t.throttled + count_by (λ (b : ℕ × Answer). is_throttle b.1) entry.answers) k.totals_are
        ∙ plus (throttled (reverse l.entries.0)) _ ∙ sym (answers_that_cons is_throttle entry (reverse l.entries.0))

    failed_is : after.totals.failed ≡ failed (entry ∷ reverse l.entries.0)
    failed_is =
        a.failed
        ∙ ap (λ (t : Counters). t.failed + count_by (λ (b : ℕ × Answer). is_failure b.1) entry.answers) k.totals_are
        ∙ plus (failed (reverse l.entries.0)) _ ∙ sym (answers_that_cons is_failure entry (reverse l.entries.0))
