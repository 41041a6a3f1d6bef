-- The state that a connection publishes, as one number.
use Rattle.std.specs.Prelude.{ℕ, ◌+◌, ◌*◌, ◌^◌, Bool, true, false, ◌&&◌, ◌==◌}
use Rattle.connection_state.specs.declared.pulse.Awaited.{Awaited}
use Rattle.connection_state.specs.declared.pulse.Awaited.TheVariants.{Answer, First, Head, Body, Taking, Next, End}
use Rattle.connection_state.specs.declared.pulse.Told.{Told}

-- The number that stands for what a connection waits for.
abbrev pub number_of : Awaited → ℕ
number_of Answer = 0
number_of First = 1
number_of Head = 2
number_of Body = 3
number_of Taking = 4
number_of Next = 5
number_of End = 6

-- The number that a connection publishes: the bytes that moved, from bit 32 on, the answers, from bit 16 on, and what
-- it waits for.
abbrev pub told_of : Told → ℕ
told_of told = told.moved * 2 ^ 32 + told.answers * 2 ^ 16 + number_of told.awaited

-- The stage of an exchange: 0 before it begins, 1 for its head, 2 for its body and its service, 3 for its response; 4
-- is the end of the connection.
abbrev pub stage_of : Awaited → ℕ
stage_of First = 0
stage_of Next = 0
stage_of Head = 1
stage_of Body = 2
stage_of Answer = 2
stage_of Taking = 3
stage_of End = 4

-- Whether a connection waits for its peer to send a request or the rest of one, or to end.
abbrev pub is_unserved : Awaited → Bool
is_unserved Answer = false
is_unserved First = true
is_unserved Head = true
is_unserved Body = true
is_unserved Taking = false
is_unserved Next = true
is_unserved End = true

-- Whether a connection is between two requests, or after the last one.
abbrev pub is_between : Awaited → Bool
is_between Answer = false
is_between First = false
is_between Head = false
is_between Body = false
is_between Taking = false
is_between Next = true
is_between End = true

-- Whether a connection lingers: it waits for its peer's end.
abbrev pub is_lingering : Awaited → Bool
is_lingering Answer = false
is_lingering First = false
is_lingering Head = false
is_lingering Body = false
is_lingering Taking = false
is_lingering Next = false
is_lingering End = true

-- Whether nothing happened between two published states.
abbrev pub is_same : Told → Told → Bool
is_same one other = (number_of one.awaited == number_of other.awaited) && (one.answers == other.answers)
    && (one.moved == other.moved)

-- Whether two published states are in the same stage of the same exchange.
abbrev pub is_in_stage_of : Told → Told → Bool
is_in_stage_of one other = (stage_of one.awaited == stage_of other.awaited) && (one.answers == other.answers)
