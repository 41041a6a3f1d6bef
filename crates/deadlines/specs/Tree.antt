-- A tree over a list of deadlines. Node 1 is its root, nodes 2i and 2i + 1 are the children of node i, and the leaves,
-- one for each environment, are numbered after the inner nodes.
use Rattle.std.specs.Prelude.{◌≡◌, ◌≢◌, ℕ, suc, ◌+◌, ◌-◌, ◌*◌, ◌/◌, ◌<◌, ◌≤◌, nat_lt, if◌then◌else◌, List, [], ◌∷◌}
use Rattle.std.specs.Prelude.{length, get_or, Option, Some, None}
use Rattle.call_model.specs.Laws.{comes_before}
use Rattle.call_model.specs.Next.{with_number}

-- The one of two environments that comes first, each given as its deadline and its number, or the only one.
abbrev pub sooner : Option (ℕ × ℕ) → Option (ℕ × ℕ) → Option (ℕ × ℕ)
sooner None other = other
sooner (Some a) None = Some a
sooner (Some a) (Some b) = if comes_before b a then Some b else Some a

-- The environment that comes first, with its deadline, if the list has those of the environments from number `e` on.
abbrev pub first_of : ℕ → List (Option ℕ) → Option (ℕ × ℕ)
first_of e [] = None
first_of e (deadline ∷ deadlines) = sooner (with_number e deadline) (first_of (suc e) deadlines)

-- The environment that comes first below a node; for a leaf, its own environment, if it has a deadline.
abbrev pub first_below : List (Option ℕ) → List (Option (ℕ × ℕ)) → ℕ → Option (ℕ × ℕ)
first_below deadlines firsts node =
    if nat_lt node (length deadlines) then get_or firsts node None
    else with_number (node - length deadlines + 1) (get_or deadlines (node - length deadlines) None)

-- Inner node `i` has the environment that comes first of its two children.
abbrev pub IsNode : List (Option ℕ) → List (Option (ℕ × ℕ)) → ℕ → Type 0
IsNode deadlines firsts i =
    get_or firsts i None ≡ sooner (first_below deadlines firsts (2 * i)) (first_below deadlines firsts (2 * i + 1))

-- Each inner node has the environment that comes first of its two children.
abbrev pub IsMended : List (Option ℕ) → List (Option (ℕ × ℕ)) → Type 0
IsMended deadlines firsts = (i : ℕ) → 1 ≤ i → i < length deadlines → IsNode deadlines firsts i

-- The same, with the possible exception of the parent of a node that has changed.
abbrev pub IsMendedBut : List (Option ℕ) → List (Option (ℕ × ℕ)) → ℕ → Type 0
IsMendedBut deadlines firsts changed =
    (i : ℕ) → 1 ≤ i → i < length deadlines → i ≢ changed / 2 → IsNode deadlines firsts i
