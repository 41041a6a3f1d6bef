-- How long a connection may stay open. All limits are in seconds.
use Rattle.std.specs.Prelude.{ℕ, ◌+◌, ◌*◌, ◌/◌, Bool, false, ◌||◌, nat_le, Option, Some, None}
use Rattle.connection_state.specs.declared.pulse.Awaited.{Awaited}
use Rattle.connection_state.specs.declared.pulse.Awaited.TheVariants.{Answer, First, Head, Body, Taking, Next, End}
use Rattle.connection_state.specs.declared.pulse.Told.{Told}
use Rattle.service_port.specs.declared.port.Port.{Port}
use Rattle.service_port.specs.declared.port.Port.TheVariants.{Account, Environment, Handled}

-- How many seconds a connection may be idle between two requests. At an environment's port this is far above the 900
-- that a handler may take, since its runtime keeps the connection of its Next open meanwhile.
abbrev pub idle_limit : Port → ℕ
idle_limit Account = 300
idle_limit (Environment e) = 3600
idle_limit (Handled number) = 300

-- How many seconds a connection may go without a byte; `None` if there is no limit.
abbrev pub still_limit : Port → Awaited → Option ℕ
still_limit port Answer = None
still_limit port First = Some 20
still_limit port Head = Some 20
still_limit port Body = Some 20
still_limit port Taking = None
still_limit port Next = Some (idle_limit port)
still_limit port End = Some 2

-- How many seconds a stage may take in all, whatever arrives meanwhile; `None` if there is no limit. `moved` is the
-- number of bytes of the stage: after its first 20 seconds, a body has to arrive at 64 KiB a minute or more.
abbrev pub stage_limit : Awaited → ℕ → Option ℕ
stage_limit Answer moved = None
stage_limit First moved = None
stage_limit Head moved = Some 60
stage_limit Body moved = Some (20 + moved * 60 / 65536)
stage_limit Taking moved = Some 300
stage_limit Next moved = None
stage_limit End moved = Some 30

-- How many seconds the stage of a published state may take in all; `None` if there is no limit.
abbrev pub whole_limit : Told → Option ℕ
whole_limit told = stage_limit told.awaited told.moved

-- Whether a number of seconds has reached the limit, if there is one.
abbrev pub is_reached : ℕ → Option ℕ → Bool
is_reached seconds (Some limit) = nat_le limit seconds
is_reached seconds None = false

-- Whether a connection has reached a limit, after `still` seconds without a byte and `whole` seconds in its stage.
abbrev pub has_outstayed : Port → Told → ℕ → ℕ → Bool
has_outstayed port told still whole = is_reached still (still_limit port told.awaited)
    || is_reached whole (whole_limit told)
