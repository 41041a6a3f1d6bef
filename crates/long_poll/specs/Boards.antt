-- What is counted of the requests that are rejected, and what of them is told.
use Rattle.std.specs.Prelude.{◌≡◌, ◌+◌, ◌-◌, ◌^◌, ◌==◌, ◌&&◌, ◌||◌, ℕ, Bool, min, not, List, None, slice_index_or, slice_set}
use Rattle.long_poll.specs.declared.rejections.board.Row.{Row}
use Rattle.long_poll.specs.declared.rejections.rejection.Told.{Told}

-- The greatest count.
abbrev pub most : ℕ
most = 2 ^ 64 - 1

-- One request more of the kind was seen, which waits to be told.
abbrev pub counted : Row → Row
counted row = record row { waiting = min (row.waiting + 1) most }

-- Something of the kind is to be told: of a kind of which something was told before, only if `all` are asked for.
abbrev pub is_due : Bool → Row → Bool
is_due all row = not (row.waiting == 0) && (all || row.told == 0)

-- All that waited is told, and so is the first request of the kind.
abbrev pub settled : Row → Row
settled row = record row { told = min (row.told + row.waiting) most; waiting = 0; first = None }

-- What is told of the kind then: its first request, unless that was told before, and how many waited.
abbrev pub telling : Row → Told
telling row = record { kind = row.kind; first = row.first; count = row.waiting }

-- One row has become what `change` makes of it, and all others are as before.
abbrev pub Changes : (Row → Row) → ℕ → List Row → List Row → Type 0
Changes change at before after = (d : Row) → after ≡ slice_set before at (change (slice_index_or before at d))
