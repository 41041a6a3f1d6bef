-- Which answer to a call the book gives itself, and which answers belong to an environment.
use Rattle.std.specs.Prelude.{ℕ, List, [], ◌∷◌, ◌++◌, Option, Some, None, filter, is_some}
use Rattle.arn_ids.specs.declared.config.Config.{Config}
use Rattle.call_types.specs.declared.answer.Answer.{Answer}
use Rattle.call_types.specs.declared.call.Call.{Call}
use Rattle.call_types.specs.declared.call.Entry.{Entry}
use Rattle.call_model.specs.Answers.{own_first, home}
use Rattle.call_types.specs.Calls.{env_of}

-- The answer, unless an environment is named.
abbrev pub unless_named : Option ℕ → Option Answer → Option Answer
unless_named None a = a
unless_named (Some e) a = None

-- The book's own answer to a call: the call's answer if the call names no environment, none otherwise.
abbrev pub book_answer : Config → List Entry → Call → Option Answer
book_answer config h call = unless_named (env_of call) (own_first config h call)

-- Some answers in ticket order, followed by the answer to the newest ticket `t`, if there is one.
abbrev pub with_own : ℕ → Option Answer → List (ℕ × Answer) → List (ℕ × Answer)
with_own t None moves = moves
with_own t (Some a) moves = moves ++ (t, a) ∷ []

-- The answers of an entry to tickets that belong to an environment.
abbrev pub homed : List Entry → Entry → List (ℕ × Answer)
homed h entry = filter (λ a. is_some (home (entry ∷ h) a.0)) entry.answers
