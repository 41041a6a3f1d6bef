-- The state of a connection: how its reads and its service change it, and what it waits for.
use Rattle.std.specs.Prelude.{ℕ, Bool, ◌+◌, ◌-◌, ◌^◌, ◌%◌, ◌==◌, min, true, false, ◌||◌, if◌then◌else◌}
use Rattle.connection_state.specs.declared.pulse.Awaited.{Awaited}
use Rattle.connection_state.specs.declared.pulse.Awaited.TheVariants.{Answer, First, Head, Body, Taking, Next, End}
use Rattle.connection_state.specs.declared.pulse.Told.{Told}
use Rattle.http_connection.specs.declared.stand.Stand.{Stand}

-- The state before the first byte.
abbrev pub fresh : Stand
fresh = record {
  answers = 0;
  moved = 0;
  is_open = false;
  has_begun = false;
  has_asked = false;
  is_short = false;
  is_parked = false;
}

-- The state after some bytes of the present request, or the first bytes of the next one.
abbrev pub after_bytes : Stand → ℕ → Stand
after_bytes s count =
    if s.is_open || s.has_begun
    then record s { moved = min (s.moved + count) (2 ^ 32 - 1); is_short = false }
    else record s { has_begun = true; moved = count; is_short = false }

-- The state after a read of some bytes; a read of none changes nothing.
abbrev pub after_read : Stand → ℕ → Stand
after_read s count = if count == 0 then s else after_bytes s count

-- The state at the start of a turn of the connection.
abbrev pub at_turn : Stand → Stand
at_turn s = record s { is_short = false }

-- The state at the end of a turn, after which a request is parked, or the rest of its response, or neither.
abbrev pub at_turns_end : Stand → Bool → Stand
at_turns_end s parked = record s { is_parked = parked }

-- The state after a read that asked for more than was there.
abbrev pub after_shortage : Stand → Stand
after_shortage s = record s { is_short = true }

-- The state after the head of a request, with which the service takes the request up.
abbrev pub after_head : Stand → Stand
after_head s = record s { is_open = true; has_begun = false; has_asked = true; is_short = false }

-- The state after the service has given its response.
abbrev pub after_response : Stand → Stand
after_response s = record s { is_open = false; answers = (s.answers + 1) % 2 ^ 16; moved = 0; is_short = false }

-- What a connection waits for at the end of a turn. If a request is parked, or the rest of its response, it waits for the
-- service. If it has taken a request up, it waits for more of the body if more
-- was asked for than was there, and otherwise for the service's answer. If it has not, it waits for the rest of a head
-- that has begun; otherwise for a request, or for its response to be taken.
abbrev pub awaited_by : Stand → Awaited
awaited_by s =
    if s.is_parked then Answer
    else if s.is_open then if s.is_short then Body else Answer
    else if s.has_begun then Head
    else if s.has_asked then if s.is_short then Next else Taking
    else First

-- What a connection publishes at the end of a turn.
abbrev pub told_by : Stand → Told
told_by s = record { awaited = awaited_by s; answers = s.answers; moved = s.moved }

-- What a connection publishes when it waits for its peer to close.
abbrev pub told_at_end : Stand → Told
told_at_end s = record { awaited = End; answers = s.answers; moved = s.moved }
