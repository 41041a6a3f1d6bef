-- A mark for each ticket.
use Rattle.std.specs.Prelude.{◌≡◌, ℕ, ◌<◌, ◌≤◌, ◌==◌, Bool, true, false, if◌then◌else◌}
use Rattle.std.specs.Prelude.{List, Option, is_some, slice_index_or}

-- 1 if the mark of a ticket is set, 0 if it is not or if the ticket is past the marks.
abbrev pub marked : ℕ → List Bool → ℕ
marked t marks = if slice_index_or marks t false then 1 else 0

-- 1 if the two tickets are the same, 0 otherwise.
abbrev pub is_at : ℕ → ℕ → ℕ
is_at t u = if u == t then 1 else 0

-- If the ticket is one of the first `count`, and something is wanted there, its mark is set.
abbrev pub HasMark : {X : Type 0} → (ℕ → Option X) → ℕ → List Bool → ℕ → Type 0
HasMark wanted count marks t = t < count → is_some (wanted t) ≡ true → 1 ≤ marked t marks
