-- The room left in a journal.
use Rattle.std.specs.Prelude.{ℕ, ◌-◌, ◌*◌, ◌/◌, if◌then◌else◌, nat_lt, nat_le}
use Rattle.http_front.specs.declared.notices.Room.{Room}
use Rattle.http_front.specs.declared.notices.Room.TheVariants.{Ample, Short, Full}

-- The room that is left. It is Full if the journal takes no call but a Stop (call_model's `full`): there is no room for
-- two more steps. It is Short if nine tenths of the entries are used.
abbrev pub room_left : ℕ → ℕ → ℕ → Room
room_left entries most step =
    if nat_lt (most - entries) (2 * step) then Full else if nat_le (most - most / 10) entries then Short else Ample
