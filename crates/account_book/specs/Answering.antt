-- How many answers a call needs room for.
use Rattle.std.specs.Prelude.{ℕ, ◌+◌, ◌*◌, if◌then◌else◌, List, [], ◌∷◌, length}
use Rattle.arn_ids.specs.Limits.{most_extensions}
use Rattle.call_types.specs.declared.call.Call.{Call}
use Rattle.call_types.specs.declared.call.Entry.{Entry}
use Rattle.call_model.specs.History.{is_stop}

-- The most answers that an environment with this many extensions gives to a call: one to the call itself, one to the
-- invocation that waits there, one to the runtime's Next, and one to the Next of each extension.
abbrev pub most_of_one : ℕ → ℕ
most_of_one extensions = extensions + 3

-- For how many answers a call needs room, in an account whose environments have up to `widest` extensions each. A
-- Stop reaches every environment, any other call up to one; one more is the account's own.
abbrev pub most_answers : ℕ → ℕ → Call → ℕ
most_answers widest environments call =
    if is_stop call then most_of_one most_extensions * environments + 1 else most_of_one widest + 1

-- The number of answers in all the entries together.
abbrev pub answers_in : List Entry → ℕ
answers_in [] = 0
answers_in (entry ∷ entries) = length entry.answers + answers_in entries
