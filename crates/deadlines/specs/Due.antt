-- Which environment is due first, from a list of deadlines.
use Rattle.std.specs.Prelude.{ℕ, suc, List, [], ◌∷◌, Option, option_map}
use Rattle.std.specs.List.{cons_option}
use Rattle.call_model.specs.Next.{due_at, by_deadline, first}

-- The deadlines that have come by `now`, each with the number of its environment; the list has those of the
-- environments from number `e` on.
abbrev pub come : ℕ → ℕ → List (Option ℕ) → List (ℕ × ℕ)
come now e [] = []
come now e (deadline ∷ deadlines) = cons_option (due_at now e deadline) (come now (suc e) deadlines)

-- The same deadlines, the earliest first, and of equal ones the environment with the lowest number first.
abbrev pub due_among : ℕ → ℕ → List (Option ℕ) → List (ℕ × ℕ)
due_among now e deadlines = by_deadline (come now e deadlines)

-- The environment that is due first, if any is due.
unfoldable pub first_due : ℕ → List (Option ℕ) → Option ℕ
first_due now deadlines = option_map (λ a. a.1) (first (due_among now 1 deadlines))
