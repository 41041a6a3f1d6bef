-- The answers of an entry, however they are held.
use Rattle.std.specs.Prelude.{ℕ, List, [], ◌∷◌}
use Rattle.call_types.specs.declared.answer.Answer.{Answer}
use Rattle.call_types.specs.declared.call.Held.{Held}
use Rattle.call_types.specs.declared.call.Held.TheVariants.{One, Listed}

-- The answers in their order, each with the ticket that got it.
abbrev pub pairs : Held → List (ℕ × Answer)
pairs (One pair) = pair ∷ []
pairs (Listed answers) = answers.items
