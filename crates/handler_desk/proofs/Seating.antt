-- Who keeps a seat.
use Rattle.std.proofs.Common.{◌≡◌, ◌⊎◌, ℕ, Bool, true, false, cond, List, Option, None, inl, inr, refl, ◌∙◌}
use Rattle.std.specs.BTreeMap.{is_at}
use Rattle.std.specs.Ordering.{nat_cmp}
use Rattle.handler_desk.specs.declared.state.Seat.{Seat}
use Rattle.handler_desk.specs.Seats.{seat_of, Vacates, OnlyLoses}

pub loses_none : (seats : List (ℕ × Seat)) → OnlyLoses seats seats
loses_none seats id = inr refl

either : {A : Type 0} (b : Bool) (after before was : Option A) → (before ≡ None) ⊎ (before ≡ was)
    → after ≡ cond b None before → (after ≡ None) ⊎ (after ≡ was)
either true after before was so e = inl e
either false after before was (inl none) e = inl (e ∙ none)
either false after before was (inr same) e = inr (e ∙ same)

pub loses_more : (first before after : List (ℕ × Seat)) (id : ℕ) → OnlyLoses first before → Vacates id before after
    → OnlyLoses first after
loses_more first before after id lost vacated other =
    either (is_at (nat_cmp id) other) (seat_of other after) (seat_of other before) (seat_of other first) (lost other)
    (vacated other)
