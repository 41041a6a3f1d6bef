-- Which environments are due, which histories are legal, and the next history.
use Rattle.std.specs.Prelude.{◌≡◌, ℕ, ◌≤◌, max, Bool, false, if◌then◌else◌, nat_le, List, [], ◌∷◌, ◌++◌, map, Option}
use Rattle.std.specs.Prelude.{Some, None, option_map, filter_map}
use Rattle.call_types.specs.declared.call.Call.{Call}
use Rattle.call_types.specs.declared.call.Call.TheVariants.{Expire}
use Rattle.call_types.specs.declared.call.Entry.{Entry}
use Rattle.call_types.specs.declared.answer.Phase.{Phase}
use Rattle.call_types.specs.declared.answer.Phase.TheVariants.{Starting, Busy, Closing}
use Rattle.arn_ids.specs.declared.config.Config.{Config}
use Rattle.arn_ids.specs.Environments.{environments}
use Rattle.call_model.specs.Life.{phase}
use Rattle.call_model.specs.Limits.{place_for}
use Rattle.call_model.specs.Answers.{answers}

-- The moment at which a phase ends by itself, if it has one: an Init after 10 s, an invocation at its function's
-- timeout, a Closing after 2 s.
abbrev pub deadline_of : Phase → Option ℕ
deadline_of (Starting d bound) = d
deadline_of (Busy p d) = Some d
deadline_of (Closing reason until bound) = Some until
deadline_of _ = None

-- Whether a deadline has come at moment m; false if there is no deadline.
abbrev pub has_come : ℕ → Option ℕ → Bool
has_come m None = false
has_come m (Some d) = nat_le d m

-- A deadline with the number of its environment, if there is a deadline.
abbrev pub with_number : ℕ → Option ℕ → Option (ℕ × ℕ)
with_number e deadline = option_map (λ d. (d, e)) deadline

-- The deadline of environment e with its number, if it has come at moment m.
abbrev pub due_at : ℕ → ℕ → Option ℕ → Option (ℕ × ℕ)
due_at m e deadline = if has_come m deadline then with_number e deadline else None

-- Inserts a pair (deadline, number) into a list that is ordered by deadline and has only greater numbers. Of equal
-- deadlines, the lower number comes first.
abbrev pub in_order : ℕ × ℕ → List (ℕ × ℕ) → List (ℕ × ℕ)
in_order a [] = a ∷ []
in_order a (b ∷ rest) = if nat_le a.0 b.0 then a ∷ b ∷ rest else b ∷ in_order a rest

-- Sorts pairs (deadline, number), which are given in rising order of their numbers, by deadline. Of equal deadlines,
-- the lower number comes first.
abbrev pub by_deadline : List (ℕ × ℕ) → List (ℕ × ℕ)
by_deadline [] = []
by_deadline (a ∷ rest) = in_order a (by_deadline rest)

-- The environments that are due at a moment: those whose deadline has come, the earliest deadline first, and of equal
-- deadlines the environment with the lowest number first.
unfoldable pub due : Config → List Entry → ℕ → List ℕ
due config h m =
    map (λ a. a.1) (by_deadline (filter_map (λ e. due_at m e (deadline_of (phase config h e))) (environments config)))

-- The moment of the newest entry; 0 before the first entry.
abbrev pub last_moment : List Entry → ℕ
last_moment [] = 0
last_moment (entry ∷ h) = entry.moment

-- The first item of a list, if there is one.
abbrev pub first : {A : Type 0} → List A → Option A
first [] = None
first (x ∷ xs) = Some x

-- A call is taken in its turn: an environment expires only if it is the first of those that are due, and any other call
-- is taken only if nothing is due.
abbrev pub IsTimely : ℕ → Call → List ℕ → Type 0
IsTimely m (Expire e) due = first due ≡ Some e
IsTimely m _ due = due ≡ []

-- A rule says which calls may be taken at a moment, given what is due: `IsTimely`, or what the laws of isolation allow
-- in a function's own history.
abbrev pub Rule : Type 1
Rule = ℕ → Call → List ℕ → Type 0

-- An entry follows a history by a rule: time does not go back, the rule allows the call, and the answers and the place
-- are the ones defined.
pub record FollowsBy (rule : Rule) (config : Config) (h : List Entry) (entry : Entry) : Type 0 where
  pub later : last_moment h ≤ entry.moment
  pub timely : rule entry.moment entry.call (due config h entry.moment)
  pub answers : entry.answers ≡ answers config h entry.moment entry.call
  pub place : entry.place ≡ place_for config h entry.call

-- Each entry of a history follows the ones before it by a rule.
abbrev pub IsLegalBy : Rule → Config → List Entry → Type 0
IsLegalBy rule config [] = Unit {0}
IsLegalBy rule config (entry ∷ h) = IsLegalBy rule config h × FollowsBy rule config h entry

-- An entry follows a history if the rules allow it: what is due expires first.
abbrev pub Follows : Config → List Entry → Entry → Type 0
Follows config h entry = FollowsBy IsTimely config h entry

-- A history is legal if each of its entries follows the ones before it. This is the sequential specification: the
-- service as a machine with one thread.
abbrev pub IsLegal : Config → List Entry → Type 0
IsLegal config h = IsLegalBy IsTimely config h

-- The entry of a call that is taken at moment m.
abbrev pub entry_of : Config → List Entry → ℕ → Call → Entry
entry_of config h m call = record {
  moment = m;
  call = call;
  answers = answers config h m call;
  place = place_for config h call;
}

-- The history with the entry of a call that is taken at moment m.
abbrev pub entered : Config → List Entry → ℕ → Call → List Entry
entered config h m call = entry_of config h m call ∷ h

-- The entries by which the listed environments expire at moment m, one after the other; the newest first.
abbrev pub expiries : Config → ℕ → List ℕ → List Entry → List Entry
expiries config m [] h = []
expiries config m (e ∷ rest) h =
    expiries config m rest (entered config h m (Expire e)) ++ (entry_of config h m (Expire e) ∷ [])

-- The entries by which everything that is due at moment m expires, the newest first.
abbrev pub expiries_at : Config → List Entry → ℕ → List Entry
expiries_at config h m = expiries config m (due config h m) h

-- The moment at which a call that is made at `now` is taken. Time never goes back: if `now` is earlier than the last
-- moment, it is the last moment.
abbrev pub moment_at : List Entry → ℕ → ℕ
moment_at h now = max now (last_moment h)

-- The entries that a call adds if it is taken at moment m, the newest first: what is due expires, and then the call is
-- taken.
abbrev pub added_at : Config → List Entry → ℕ → Call → List Entry
added_at config h m call = entry_of config (expiries_at config h m ++ h) m call ∷ expiries_at config h m

-- The entries that a call adds if it is made at `now`, the newest first.
unfoldable pub added : Config → List Entry → ℕ → Call → List Entry
added config h now call = added_at config h (moment_at h now) call

-- The next history: the history after a call that is made at `now`.
unfoldable pub next : Config → List Entry → ℕ → Call → List Entry
next config h now call = added config h now call ++ h
