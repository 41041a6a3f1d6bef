-- The moment of a call, from a reading of the clock.
use Rattle.std.specs.Prelude.{ℕ, min}
use Rattle.arn_ids.specs.Limits.{greatest_moment}

-- The reading in milliseconds, or 2^53 - 1 if it is greater: the greatest number that JSON carries exactly (RFC 8259,
-- section 6).
abbrev pub moment_of : ℕ → ℕ
moment_of reading = min reading greatest_moment
