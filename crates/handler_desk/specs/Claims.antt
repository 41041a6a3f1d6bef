-- Identifiers, each of which is claimed once.
use Rattle.std.specs.Prelude.{◌≡◌, ℕ, ◌+◌, ◌==◌, ◌≤◌, if◌then◌else◌, List, [], ◌∷◌}
use Rattle.atomic_table.specs.Table.{Me}
use Rattle.handler_desk.specs.declared.claims.Held.{Held}

-- What a claim holds.
abbrev pub held : List ℕ → Held
held ids = record { ids = ids }

-- How often an identifier is in a list, and in all claims.
abbrev pub once : ℕ → ℕ → ℕ
once id other = if id == other then 1 else 0

abbrev pub times : ℕ → List ℕ → ℕ
times id [] = 0
times id (other ∷ ids) = once id other + times id ids

abbrev pub times_held : ℕ → List Held → ℕ
times_held id [] = 0
times_held id (claim ∷ claims) = times id claim.ids + times_held id claims

-- An identifier is that of one claim at most, and of none before it comes.
abbrev pub AreOnceEach : List ℕ → List Held → Type 0
AreOnceEach words claims = (next : ℕ) × (words ≡ next ∷ [])
    × ((id : ℕ) → (times_held id claims ≤ 1) × (next ≤ id → times_held id claims ≡ 0))

-- A claim that held nothing holds the identifier that was to come next; or another was, and nothing has changed.
abbrev pub Drew : ℕ → Me (Unit {0}) Held → ℕ → Me (Unit {0}) Held → Type 0
Drew id before found after =
    (found ≡ id → after ≡ (held (id ∷ []), [])) × ((found ≡ id → ⊥) → after ≡ before)

-- A claim holds no identifier twice.
abbrev pub Looked : Me (Unit {0}) Held → Me (Unit {0}) Held → Type 0
Looked before after = (after ≡ before) × ((id : ℕ) → times id before.0.ids ≤ 1)
