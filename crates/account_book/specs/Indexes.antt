-- The answers of a history, by ticket.
use Rattle.std.specs.Prelude.{ℕ, List, [], ◌∷◌, length, map, slice_set, Option, Some}
use Rattle.arn_ids.specs.Environments.{count_from}
use Rattle.call_types.specs.declared.answer.Answer.{Answer}
use Rattle.call_types.specs.declared.call.Entry.{Entry}
use Rattle.call_model.specs.History.{answer_of}

-- For each ticket of a history, from 0 on, its answer, if it was answered.
abbrev pub answers_by_ticket : List Entry → List (Option Answer)
answers_by_ticket h = map (answer_of h) (count_from 0 (length h))

-- The same list after the answers of one more entry are noted in it.
abbrev pub noted : List (ℕ × Answer) → List (Option Answer) → List (Option Answer)
noted [] given = given
noted (a ∷ rest) given = slice_set (noted rest given) a.0 (Some a.1)
