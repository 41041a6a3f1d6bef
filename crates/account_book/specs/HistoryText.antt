-- The text of a book's history, which is itself a script.
use Rattle.std.specs.Prelude.{ℕ, List, [], ◌∷◌, ◌++◌, length, codes}
use Rattle.arn_ids.specs.declared.config.Config.{Config}
use Rattle.lambda_wire.specs.ConfigurationText.{setup_text}
use Rattle.call_types.specs.declared.call.Entry.{Entry}
use Rattle.script.specs.AnswerText.{entry_text, answer_lines}

-- The text before the first entry: the line `form 2`, and the configuration's line.
abbrev pub opening_text : Config → ℕ → ℕ → List ℕ
opening_text config salt max_entries = codes "form 2\n" ++ (setup_text config salt max_entries ++ 10 ∷ [])

-- The texts of some entries of the history `h`, the oldest first. The entries are given the newest first, and an
-- entry's number is the number of entries older than it.
abbrev pub entries_text : Config → ℕ → List Entry → List Entry → List ℕ
entries_text config salt h [] = []
entries_text config salt h (entry ∷ older) =
    entries_text config salt h older ++ entry_text config salt h (length older) entry

-- The text of a history.
unfoldable pub history_text : Config → ℕ → ℕ → List Entry → List ℕ
history_text config salt max_entries h = opening_text config salt max_entries ++ entries_text config salt h h

-- The answer lines of some entries of the history `h`, the oldest first. The entries are given the newest first.
abbrev pub answers_from : ℕ → List Entry → List Entry → List ℕ
answers_from salt h [] = []
answers_from salt h (entry ∷ older) = answers_from salt h older ++ answer_lines salt h (length older) entry

-- All answer lines of a history, the oldest first.
abbrev pub answers_text : ℕ → List Entry → List ℕ
answers_text salt h = answers_from salt h h
