-- The least ticket at which a property fails.
use Rattle.std.specs.Prelude.{ℕ, ◌<◌, min, Option, Some, None}

-- The property fails at this ticket, and holds at each lesser one.
abbrev pub FailsFirstAt : (ℕ → Type 0) → ℕ → Type 0
FailsFirstAt P t = (P t → ⊥) × ((k : ℕ) → k < t → P k)

-- The result of a search for the least ticket at which a property fails; none if it holds at every ticket.
abbrev pub FirstFailure : (ℕ → Type 0) → Option ℕ → Type 0
FirstFailure P None = (t : ℕ) → P t
FirstFailure P (Some t) = FailsFirstAt P t

-- The lesser of two tickets, either of which may be missing.
abbrev pub lesser : Option ℕ → Option ℕ → Option ℕ
lesser None b = b
lesser (Some a) None = Some a
lesser (Some a) (Some b) = Some (min a b)
