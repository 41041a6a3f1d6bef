-- The moments of calls that are made for no request.
use Rattle.std.specs.Prelude.{◌≡◌, ◌+◌, ◌<◌, ℕ}
use Rattle.long_poll.specs.Moments.{moment_of}
use Rattle.long_poll.specs.declared.service.clock.Clock as Clock

-- A moment is that of a reading of a clock.
abbrev pub IsRead : {N : Type 0} → Clock.Ghosts N → N → ℕ → Type 0
IsRead clock it now = (reading : ℕ) × clock.reads it reading × (now ≡ moment_of reading)

-- A moment is that of a reading of a clock, set forward by a lag that the clock gave, of more than a second.
abbrev pub IsReadAhead : {N : Type 0} → Clock.Ghosts N → N → ℕ → Type 0
IsReadAhead clock it now =
    (reading : ℕ) × (lag : ℕ) × clock.reads it reading × clock.lags it lag × (1000 < lag) × (now ≡ moment_of (reading + lag))
