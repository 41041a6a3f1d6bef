use Rattle.std.proofs.Common.{◌≡◌, ℕ, ◌+◌, ◌*◌, ◌≤◌, List, length, Option}
use Rattle.json.specs.Token.{Token}
use Rattle.json.specs.Json.{Parse, items, members, value}
use Rattle.json.specs.Reads.{skip_items, skip_members}
use Rattle.json.proofs.Grammar.{left}
use Rattle.lambda_wire.specs.JsonParts.{all_in_range}
use Rattle.lambda_wire.proofs.json_check.+check.Given as goal

-- of the tokens `first`, `now` are still to come: what follows the array or object is found in them, and no number before them is out of range
abbrev pub GoesOn : {A : Type 0} → Option (List Token) → (ℕ → Parse A) → List Token → List Token → Type 0
GoesOn passed parse first now =
    (n : ℕ) × (length now ≤ n) × (passed ≡ left (parse n now)) × (length now ≤ length first) × (all_in_range first ≡ all_in_range now)

abbrev pub decreases-check_value : goal.decreases-check_value
decreases-check_value l = 2 * l.depth

abbrev pub decreases-check_items : goal.decreases-check_items
decreases-check_items l = 2 * l.depth + 1

abbrev pub decreases-check_members : goal.decreases-check_members
decreases-check_members l = 2 * l.depth + 1

abbrev pub invariant-check_items-loop-reader : goal.invariant-check_items-loop-reader
invariant-check_items-loop-reader l =
    GoesOn (skip_items l.depth l.initial.reader) (items (value l.depth)) l.initial.reader l.reader

abbrev pub decreases-check_items-loop-reader : goal.decreases-check_items-loop-reader
decreases-check_items-loop-reader l = length l.reader

abbrev pub invariant-check_members-loop-reader : goal.invariant-check_members-loop-reader
invariant-check_members-loop-reader l =
    GoesOn (skip_members l.depth l.initial.reader) (members (value l.depth)) l.initial.reader l.reader

abbrev pub decreases-check_members-loop-reader : goal.decreases-check_members-loop-reader
decreases-check_members-loop-reader l = length l.reader
