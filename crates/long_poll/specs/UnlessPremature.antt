-- The result of a call that is submitted to an account.
use Rattle.std.specs.Prelude.{◌≡◌, ℕ, List, Option, Result, Ok, Err}
use Rattle.account_lock.specs.declared.desk.Refused.{Refused}
use Rattle.account_lock.specs.declared.desk.unless_premature.NotTaken.{NotTaken}
use Rattle.account_lock.specs.declared.desk.unless_premature.NotTaken.TheVariants as not_taken
use Rattle.call_types.specs.declared.call.Call.{Call}
use Rattle.call_types.specs.declared.call.Entry.{Entry}
use Rattle.usage_ledger.specs.Tallies.{Held}
use Rattle.long_poll.specs.declared.service.bell.OneShotBell.{OneShotBell}

-- The result of a submit: the ticket, with the history that its token has seen; or why the call was refused, with its
-- bell.
abbrev pub CameBack : Type 0
CameBack = Result (ℕ × List Entry) (Refused OneShotBell)

-- The result of a call that is submitted unless it is premature. Either it was submitted: `submits` relates what was
-- seen of the history, what the tally held, the moment, the call, its bell, the result, and what is seen and held
-- afterwards. Or it is premature: it is returned with its bell, and the tally is unchanged.
abbrev pub UnlessPremature : {A B : Type 0}
    → (List Entry → Held → ℕ → Call → Option B → Result A (Refused B) → List Entry → Held → Type 0)
    → List Entry → Held → ℕ → Call → Option B → Result A (NotTaken B) → List Entry → Held → Type 0
UnlessPremature submits had before now call bell (Ok taken) then after = submits had before now call bell (Ok taken) then after
UnlessPremature submits had before now call bell (Err (not_taken.Refused refused)) then after =
    submits had before now call bell (Err refused) then after
UnlessPremature submits had before now call bell (Err (not_taken.Premature other back)) then after =
    (other ≡ call) × (back ≡ bell) × (after ≡ before)
