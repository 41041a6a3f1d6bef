use Rattle.std.proofs.Common.{◌≡◌, ◌≤◌, ◌<◌, ◌∙◌, ℕ, List, ◌++◌, sym, ap, refl, arith, max, All, Bool, true, false, true≢false, ◌||◌, ◌^◌}
use Rattle.call_types.specs.declared.call.Call.{Call}
use Rattle.call_types.specs.declared.call.Entry.{Entry}
use Rattle.arn_ids.specs.declared.config.Config.{Config}
use Rattle.call_model.specs.Counts.{full}
use Rattle.call_model.specs.History.{stopped, is_stop}
use Rattle.call_model.specs.Next.{expiries_at, last_moment, next, moment_at}
use Rattle.call_model.proofs.NextLegal.{none_due_at, next_entered}
use Rattle.account_book.specs.declared.book.Book.TheInside.{Inside}
use Rattle.account_book.specs.Book.{Kept}
use Rattle.account_book.specs.Books.{IsBook}
use Rattle.call_types.specs.Calls.{body_of}
use Rattle.call_types.specs.Within.{IsWithin}
use Rattle.call_model.proofs.Added.{room_for_stop}
use Rattle.account_book.proofs.Reaching.{reached_next}
use Rattle.account_book.specs.Pages.{Pages}
use Rattle.account_book.proofs.RoomMeets.{room_for}
use Rattle.account_book.proofs.book.Book.take.Goals as goal

-- after a Stop the service is stopped
stops : (config : Config) (h : List Entry) (now : ℕ) (call : Call) → is_stop call ≡ true → stopped (next config h now call) ≡ true
stops config h now call q = ap stopped (next_entered config h now call) ∙ ap (λ (b : Bool). b || stopped (expiries_at config h (moment_at h now) ++ h)) q

pub room_for-requires : goal.room_for-requires
room_for-requires c =
    let free : full c.self.inside.journal.config c.self.inside.max_entries c.self.inside.journal.history c.args.call ≡ false = rw (sym c.self.view_is) at c.requires.free in
    omega
    (arith, room_for c.self.inside.journal.config c.self.inside.max_entries c.self.inside.journal.history c.args.call (moment_at c.self.inside.journal.history c.args.now) free, c.self.invariant.few, rw (sym c.self.view_is) at c.requires.expiries)

pub expire_due-requires-clause-as_many : goal.expire_due-requires-clause-as_many
expire_due-requires-clause-as_many c =
    let j = c.self.inside.journal in
    let moment : c.max-moment.result ≡ moment_at j.history c.args.now = c.max-moment.ensures ∙ ap (max c.args.now) c.last_moment.ensures.value in
    rw (c.in_ok-rooms.ensures.same.0, c.in_ok-rooms.ensures.same.1, moment) (c.in_ok-rooms.ensures.as_many ∙ rw (sym c.self.view_is) at c.requires.expiries)

pub expire_due-requires-clause-later : goal.expire_due-requires-clause-later
expire_due-requires-clause-later c = rw (c.in_ok-rooms.ensures.same.1, c.max-moment.ensures) (omega (arith, c.last_moment.ensures.value))

pub take-requires-clause-later : goal.take-requires-clause-later
take-requires-clause-later c =
    let j = c.self.inside.journal in
    let moment : c.max-moment.result ≡ max c.args.now (last_moment j.history) = c.max-moment.ensures ∙ ap (max c.args.now) c.last_moment.ensures.value in
    let later : last_moment j.history ≤ c.max-moment.result = rw moment (omega arith) in
    rw (c.expire_due.ensures, c.in_ok-rooms.ensures.same.0, c.in_ok-rooms.ensures.same.1)
    ((none_due_at j.config j.history c.max-moment.result c.facts.ensures.legal later).later)

pub take-requires-clause-none_due : goal.take-requires-clause-none_due
take-requires-clause-none_due c =
    let j = c.self.inside.journal in
    let moment : c.max-moment.result ≡ max c.args.now (last_moment j.history) = c.max-moment.ensures ∙ ap (max c.args.now) c.last_moment.ensures.value in
    let later : last_moment j.history ≤ c.max-moment.result = rw moment (omega arith) in
    rw (c.expire_due.ensures, c.in_ok-rooms.ensures.same.0, c.in_ok-rooms.ensures.same.1)
    ((none_due_at j.config j.history c.max-moment.result c.facts.ensures.legal later).none_due)

-- the history after the call
stepped : (c : goal.After-len)
    → (c.take.new.self.config ≡ c.self.inside.journal.config) × (c.take.new.self.history ≡ next c.self.inside.journal.config c.self.inside.journal.history c.args.now c.args.call)
stepped c =
    let j = c.self.inside.journal in
    let moment : c.max-moment.result ≡ moment_at j.history c.args.now = c.max-moment.ensures ∙ ap (max c.args.now) c.last_moment.ensures.value in
    let config : c.expire_due.new.self.config ≡ j.config = ap (λ (p : Pages). p.config) c.expire_due.ensures ∙ c.in_ok-rooms.ensures.same.0 in (
      c.take.ensures.config ∙ config,
      c.take.ensures.history
          ∙ rw (c.expire_due.ensures, c.in_ok-rooms.ensures.same.0, c.in_ok-rooms.ensures.same.1, moment) (sym (next_entered j.config j.history c.args.now c.args.call)),
    )

pub returns-clause-step : goal.returns-clause-step
returns-clause-step c = rw (sym c.self.view_is, (stepped c).0, (stepped c).1) refl

-- the book is one still, where its history is as it was
as_before : (b after : Inside) → IsBook b → after.journal.config ≡ b.journal.config
    → after.journal.history ≡ b.journal.history → after.max_entries ≡ b.max_entries → IsBook after
as_before b after k config history entries = record {
  in_range = rw config k.in_range;
  room = rw (config, entries) k.room;
  few = rw entries k.few;
  reached = rw (config, entries, history) k.reached;
  stop = rw (config, entries, history) k.stop;
}

pub invariant_of-self : goal.invariant_of-self
invariant_of-self c = as_before c.self.inside _ c.self.invariant c.in_err-rooms.ensures.same.0 c.in_err-rooms.ensures.same.1 refl

-- and where it takes a call
goes_on : (b after : Inside) (now : ℕ) (call : Call) → IsBook b → now < 2 ^ 53 → IsWithin b.journal.config call
    → All (λ x. x < 256) (body_of call) → full b.journal.config b.max_entries b.journal.history call ≡ false
    → after.journal.config ≡ b.journal.config → after.journal.history ≡ next b.journal.config b.journal.history now call
    → after.max_entries ≡ b.max_entries → IsBook after
goes_on b after now call k early within bytes free config history entries = record {
  in_range = rw config k.in_range;
  room = rw (config, entries) k.room;
  few = rw entries k.few;
  reached =
      rw (config, entries, history)
      (reached_next b.journal.config b.max_entries b.journal.history now call k.reached (record { timed = (omega (arith, early), within); bytes = bytes; room = free }));
  stop = rw (config, entries, history) (λ q. room_for_stop b.journal.config b.max_entries b.journal.history now call free (unstopped (is_stop call) refl q));
}
  where
    unstopped : (s : Bool) → is_stop call ≡ s → stopped (next b.journal.config b.journal.history now call) ≡ false → is_stop call ≡ false
    unstopped false r q = r
    unstopped true r q = absurd (true≢false (sym (stops b.journal.config b.journal.history now call r) ∙ q))

pub invariant_of-self-2 : goal.invariant_of-self-2
invariant_of-self-2 c =
    goes_on c.self.inside _ c.args.now c.args.call c.self.invariant c.requires.moment
    (rw (ap (λ (k : Kept). k.config) c.self.view_is) c.requires.within) c.body_fits.ensures
    (rw (sym c.self.view_is) at c.requires.free) (stepped c).0 (stepped c).1 refl
