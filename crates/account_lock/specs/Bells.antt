-- The bells of the callers that wait, and which of them ring.
use Rattle.std.specs.Prelude.{ℕ, Bool, true, ◌&&◌, ◌==◌, nat_lt, if◌then◌else◌, List, [], ◌∷◌, ◌++◌, Option}
use Rattle.std.specs.Prelude.{Some, None, flat_map, reverse}
use Rattle.std.specs.List.{list_all}
use Rattle.call_types.specs.declared.answer.Answer.{Answer}
use Rattle.call_types.specs.declared.call.Entry.{Entry}

-- The bells of a ticket.
abbrev pub of_ticket : {B : Type 0} → ℕ → List (ℕ × B) → List B
of_ticket t [] = []
of_ticket t (bell ∷ bells) = if bell.0 == t then bell.1 ∷ of_ticket t bells else of_ticket t bells

-- The bells of the other tickets.
abbrev pub other_bells : {B : Type 0} → ℕ → List (ℕ × B) → List (ℕ × B)
other_bells t [] = []
other_bells t (bell ∷ bells) = if bell.0 == t then other_bells t bells else bell ∷ other_bells t bells

-- Whether each bell belongs to a lower ticket than those after it, so that a ticket has at most one bell.
abbrev pub are_rising : {B : Type 0} → List (ℕ × B) → Bool
are_rising [] = true
are_rising (bell ∷ bells) = list_all (λ other. nat_lt bell.0 other.0) bells && are_rising bells

-- The bells that answers ring: those of the tickets that are answered, in the order of the answers.
abbrev pub rings_of : {B : Type 0} → List (ℕ × Answer) → List (ℕ × B) → List B
rings_of [] bells = []
rings_of (a ∷ answers) bells = of_ticket a.0 bells ++ rings_of answers (other_bells a.0 bells)

-- The bells that stay: those of the tickets that are not answered.
abbrev pub bells_after : {B : Type 0} → List (ℕ × Answer) → List (ℕ × B) → List (ℕ × B)
bells_after [] bells = bells
bells_after (a ∷ answers) bells = bells_after answers (other_bells a.0 bells)

-- The bell that a caller brings, if any, at the ticket of its call.
abbrev pub own_bell : {B : Type 0} → ℕ → Option B → List (ℕ × B)
own_bell t None = []
own_bell t (Some bell) = (t, bell) ∷ []

-- The answers of entries, in the order of the entries.
abbrev pub answers_of : List Entry → List (ℕ × Answer)
answers_of entries = flat_map (λ entry. entry.answers) entries

-- The answers that the entries of a step give, the oldest entry first. The entries are listed the newest first, as in
-- a history.
abbrev pub given : List Entry → List (ℕ × Answer)
given entries = answers_of (reverse entries)
