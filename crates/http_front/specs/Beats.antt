-- What the ticker does at a beat.
use Rattle.std.specs.Prelude.{◌≡◌, ◌⊎◌, ◌+◌, ℕ, Bool, true, false, not, nat_lt, min, List, Option, Some, None, IfSome, IfNone, is_some}
use Rattle.account_book.specs.declared.book.Life.{Life}
use Rattle.account_book.specs.declared.book.Life.TheVariants.{Open, Stopping, Off}
use Rattle.account_book.specs.declared.book.Refusal.{Refusal}
use Rattle.account_book.specs.declared.book.Refusal.TheVariants.{OutOfMemory, JournalFull}
use Rattle.account_lock.specs.Submits.{Took, IsTurnedAway}
use Rattle.arn_ids.specs.declared.config.Config.{Config}
use Rattle.call_model.specs.Next.{due, first}
use Rattle.call_types.specs.declared.answer.Answer.{Answer}
use Rattle.call_types.specs.declared.call.Call.TheVariants.{Tick}
use Rattle.call_types.specs.declared.call.Entry.{Entry}
use Rattle.call_types.specs.declared.head.Head.{Head}
use Rattle.usage_ledger.specs.Keeping.{Kept}
use Rattle.usage_ledger.specs.Tallies.{Held}

-- What the ticker does in an account, at a moment of which `at_moment` holds, with a tally that held `before` and then
-- holds `after`, and a token that has then seen `seen`.
module _ (config : Config) (most : ℕ) (notes : Kept → ℕ → Answer → Kept → Type 0)
    (makes : Kept → ℕ → Head → Kept → Type 0) (at_moment : ℕ → Type 0) (before : Held) (seen : List Entry)
    (after : Held) where
  -- The tally has counted one call, a Tick at such a moment, which the history that the token has then seen took last.
  abbrev pub HasTicked : Type 0
  HasTicked =
      (had : List Entry) × (now : ℕ) × (ticket : ℕ) × at_moment now
      × Took config most notes makes had before now Tick ticket seen after

  -- The tally has counted nothing, or one such Tick.
  abbrev pub HasTickedAtMostOnce : Type 0
  HasTickedAtMostOnce = (after ≡ before) ⊎ HasTicked

  -- The tally has counted nothing, and nothing is due at such a moment.
  abbrev pub HasNothingToDo : Type 0
  HasNothingToDo = (after ≡ before) × ((now : ℕ) × at_moment now × (is_some (first (due config seen now)) ≡ false))

  -- A tick was not refused: it was taken, or nothing was due.
  abbrev pub HasDone : Type 0
  HasDone = HasTicked ⊎ HasNothingToDo

  -- A tick was refused, and this is why: the tally has counted nothing.
  abbrev pub HasBeenRefused : Refusal → Type 0
  HasBeenRefused refusal = (after ≡ before) × ((had : List Entry) × IsTurnedAway config most had Tick refusal seen)

-- What a look of the ticker came to: it caught up with the time of day, at a moment of which `ahead` holds, or not; and
-- then a tick, at a moment of which `at_moment` holds, was refused, and this is why, or it was not.
abbrev pub HasLooked : Config → ℕ → (Kept → ℕ → Answer → Kept → Type 0) → (Kept → ℕ → Head → Kept → Type 0)
    → (ℕ → Type 0) → (ℕ → Type 0) → Held → List Entry → Held → Option Refusal → Type 0
HasLooked config most notes makes ahead at_moment before seen after refusal =
    (then : List Entry) × (between : Held)
    × HasTickedAtMostOnce config most notes makes ahead before then between
    × IfNone refusal (HasDone config most notes makes at_moment between seen after)
    × IfSome refusal (HasBeenRefused config most notes makes at_moment between seen after)

-- For how many beats in a row ticks were refused, after one more tick with this result. A full journal stays full, so
-- that counts as the most, ten seconds of beats.
abbrev pub refused_after : ℕ → Option Refusal → ℕ
refused_after before None = 0
refused_after before (Some OutOfMemory) = min (before + 1) 4294967295
refused_after before (Some JournalFull) = 200

-- Whether the service is at its end: after a Stop, once every environment is off, or once ticks were refused for ten
-- seconds.
abbrev pub has_ended : Life → ℕ → Bool
has_ended Open refused = false
has_ended Stopping refused = not (nat_lt refused 200)
has_ended Off refused = true
