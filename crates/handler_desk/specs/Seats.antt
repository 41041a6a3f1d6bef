-- Where what is given for a request is sent.
use Rattle.std.specs.Prelude.{◌≡◌, ◌⊎◌, ◌==◌, ℕ, Bool, false, not, cond, List, Option, Some, None, option_map}
use Rattle.std.specs.BTreeMap.{is_at}
use Rattle.std.specs.List.{filter}
use Rattle.std.specs.Map.{lookup}
use Rattle.std.specs.Ordering.{nat_cmp}
use Rattle.futures.specs.Channel.{canceled_source, completed_source}
use Rattle.futures.specs.declared.channel.oneshot.Receiver.{Receiver}
use Rattle.futures.specs.declared.channel.oneshot.Sender.{Sender}
use Rattle.handler_desk.specs.declared.posted.Given.{Given}
use Rattle.handler_desk.specs.declared.state.Seat.{Seat}

-- The seat of the request with an identifier.
abbrev pub seat_of : ℕ → List (ℕ × Seat) → Option Seat
seat_of id seats = lookup (is_at (nat_cmp id)) seats

-- Where what is given for the request with an identifier is sent.
abbrev pub sender_of : ℕ → List (ℕ × Seat) → Option (Sender Given)
sender_of id seats = option_map (λ seat. seat.sender) (seat_of id seats)

-- There is a seat, and what is sent there comes to this receiver: both are ends of one channel.
abbrev pub LeadsTo : Receiver Given → Option Seat → Type 0
LeadsTo given None = ⊥
LeadsTo given (Some seat) = canceled_source seat.sender ≡ completed_source given

-- The requests with other identifiers keep their seats.
abbrev pub KeepsOthers : ℕ → List (ℕ × Seat) → List (ℕ × Seat) → Type 0
KeepsOthers id before after =
    (other : ℕ) → is_at (nat_cmp id) other ≡ false → seat_of other after ≡ seat_of other before

-- The request with this identifier has no seat any more; the others keep theirs.
abbrev pub Vacates : ℕ → List (ℕ × Seat) → List (ℕ × Seat) → Type 0
Vacates id before after =
    (other : ℕ) → seat_of other after ≡ cond (is_at (nat_cmp id) other) None (seat_of other before)

-- Whatever has a seat has the one that it had.
abbrev pub OnlyLoses : List (ℕ × Seat) → List (ℕ × Seat) → Type 0
OnlyLoses before after = (id : ℕ) → (seat_of id after ≡ None) ⊎ (seat_of id after ≡ seat_of id before)

-- Whether a handler has taken the request of a seat.
abbrev pub is_at_handler : ℕ → Option ℕ → Bool
is_at_handler handler None = false
is_at_handler handler (Some other) = other == handler

abbrev pub is_taken_by : ℕ → ℕ × Seat → Bool
is_taken_by handler seat = is_at_handler handler seat.1.handler

-- The seats but for those of the requests that a handler has taken.
abbrev pub without_seats_of : ℕ → List (ℕ × Seat) → List (ℕ × Seat)
without_seats_of handler seats = filter (λ seat. not (is_taken_by handler seat)) seats
