-- The sources of wakes of a bell: where it rings, and where it is heard.
use Rattle.std.specs.Prelude.{ℕ}
use Rattle.futures.specs.Channel.{completed_source, canceled_source}
use Rattle.long_poll.specs.declared.service.bell.OneShotBell.{OneShotBell}
use Rattle.long_poll.specs.declared.service.bell.Heard.{Heard}

-- The source of wakes that fires once the bell rings or is dropped.
abbrev pub rings_at : OneShotBell → ℕ
rings_at bell = canceled_source bell.sender

-- The source of wakes that the future which hears the bell waits for.
abbrev pub hears_at : Heard → ℕ
hears_at heard = completed_source heard.receiver
