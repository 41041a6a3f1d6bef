use Rattle.std.proofs.Common.{◌≡◌, ◌<◌, ◌≤◌, ◌+◌, ◌∙◌, ◌++◌, ◌∷◌, [], ap, ap₂, arith, length, reverse, All, ℕ, length-append, List, Option, None, count_by}
use Rattle.call_types.specs.declared.answer.Answer.{Answer}
use Rattle.call_model.specs.Counts.{is_throttle, is_failure}
use Rattle.account_book.specs.declared.ledger.Ledger.TheInside.{Inside}
use Rattle.account_book.specs.Indexes.{noted}
use Rattle.account_book.specs.Ledgers.{shelf, IsLedger}
use Rattle.account_book.specs.Shelf.{Shelf}
use Rattle.account_book.proofs.Indexed.{answered_length}
use Rattle.account_book.proofs.LedgerKept.{ledger_kept}
use Rattle.account_book.proofs.ledger.Ledger.add.Goals as goal

-- each ticket of the answers has a place in the index
places : (l : Inside) (s : Shelf) (answers : List (ℕ × Answer)) (given : List (Option Answer)) → IsLedger l
    → shelf l ≡ s → given ≡ l.given.0 ++ None ∷ [] → All (λ a. a.0 ≤ length s.history) answers
    → All (λ a. a.0 < length given) answers
places l s answers given k view is all i d lt =
    let long : length given ≡ length s.history + 1 = ap length is ∙ length-append l.given.0 (None ∷ []) ∙ ap (λ n. n + 1) (ap length k.given_is ∙ answered_length (reverse l.entries.0) ∙ ap (λ (x : Shelf). length x.history) view) in
    omega (arith, all i d lt, long)

pub note-requires : goal.note-requires
note-requires c =
    rw c.as_slice.ensures
    (places c.self.inside c.args.self.now c.args.answers c.push.new.self.0 c.self.invariant c.self.view_is (ap (λ (g : List (Option Answer) × ℕ). g.0) c.push.ensures) c.requires.tickets)

pub invariant_of-self : goal.invariant_of-self
invariant_of-self c =
    let history : reverse c.self.inside.entries.0 ≡ c.args.self.now.history = ap (λ (x : Shelf). x.history) c.self.view_is in
    ledger_kept c.self.inside _
    (record { moment = c.args.moment; call = c.args.call; answers = c.args.answers; place = c.args.place }) c.args.count c.self.invariant
    (record {
      entries = c.push-3.ensures;
      counts = c.push-2.ensures;
      given = c.note.ensures ∙ ap₂ (λ (a : List (ℕ × Answer)) (g : List (Option Answer) × ℕ). (noted a g.0, g.1)) c.as_slice.ensures c.push.ensures;
      admitted = c.count.ensures.admitted;
      throttled =
          c.count.ensures.throttled ∙ ap (λ (a : List (ℕ × Answer)). c.self.inside.totals.throttled + count_by (λ b. is_throttle b.1) a) c.as_slice-2.ensures;
      failed = c.count.ensures.failed ∙ ap (λ (a : List (ℕ × Answer)). c.self.inside.totals.failed + count_by (λ b. is_failure b.1) a) c.as_slice-2.ensures;
      stopped = c.stops-self-inside.ensures;
    })
    (rw (ap (λ (x : Shelf). x.room) c.self.view_is) c.requires.room) (rw history c.requires.count)
    (rw history c.requires.tickets) c.requires.few (rw history c.requires.fresh)
