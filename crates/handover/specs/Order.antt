-- What holds of each counter: its identifiers ascend.
use Rattle.std.specs.Prelude.{◌≡◌, ℕ, ◌+◌, ◌≤◌, List, [], ◌∷◌, ◌++◌}
use Rattle.std.specs.Map.{keys_of}
use Rattle.handover.specs.declared.request.Request.{Request}
use Rattle.handover.specs.Counters.{bytes_held}

-- The identifiers ascend, from `low` at the least, and all are below `high`.
abbrev pub Ascend : ℕ → List ℕ → ℕ → Type 0
Ascend low [] high = low ≤ high
Ascend low (id ∷ ids) high = (low ≤ id) × Ascend (id + 1) ids high

-- The identifiers of those that were taken and of those that wait ascend, in this order, and all were given; the bytes
-- are those of the requests that wait.
pub record IsSound (waiting : List (ℕ × Request)) (taken : List (ℕ × ℕ)) (next_id bytes : ℕ) : Type 0 where
  pub ascend : Ascend 0 (keys_of taken ++ keys_of waiting) next_id
  pub held : bytes ≡ bytes_held waiting
