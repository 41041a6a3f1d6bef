-- The room that a call and its expiries need in the journal.
use Rattle.std.specs.Prelude.{◌≡◌, ℕ, ◌+◌, ◌*◌, ◌≤◌, if◌then◌else◌, List, [], length, unwrap_or}
use Rattle.arn_ids.specs.declared.config.Config.{Config}
use Rattle.call_types.specs.declared.answer.Answer.{Answer}
use Rattle.call_types.specs.declared.call.Call.{Call}
use Rattle.call_types.specs.declared.call.Entry.{Entry}
use Rattle.call_types.specs.Within.{IsEnv}
use Rattle.call_model.specs.History.{is_stop}
use Rattle.call_model.specs.Life.{stand}
use Rattle.call_model.specs.Next.{first}
use Rattle.account_book.specs.Answering.{most_of_one}

-- The number of entries that there must be room for before a call: for a Stop, its own and an expiry of each
-- environment; for any other call twice as many, since as much again is kept for a Stop.
abbrev pub wanted : ℕ → Call → ℕ
wanted environments call = if is_stop call then environments + 1 else 2 * (environments + 1)

-- An empty list with room for the answers that an expiry may give: the most extensions of an environment, and 4 more.
abbrev pub IsRoom : ℕ → List (ℕ × Answer) × ℕ → Type 0
IsRoom widest answers = (answers.0 ≡ []) × (most_of_one widest + 1 ≤ answers.1)

-- No environment has more than `widest` extensions.
abbrev pub IsNarrow : Config → List Entry → ℕ → Type 0
IsNarrow config h widest = (e : ℕ) → IsEnv config e → length (stand config h e).members ≤ widest

-- The first number of a list, or 0 if the list is empty.
abbrev pub first_or_zero : List ℕ → ℕ
first_or_zero xs = unwrap_or (first xs) 0
