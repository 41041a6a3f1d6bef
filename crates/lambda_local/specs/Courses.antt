-- What a clock reads that may be paused and set.
use Rattle.std.specs.Prelude.{ℕ, ◌+◌, ◌-◌, Bool, true, false, min}
use Rattle.arn_ids.specs.Limits.{greatest_moment}
use Rattle.lambda_local.specs.declared.course.Course.{Course}

-- How much time has passed in a clock that is running or not, while the other one counted from `from` to `counted`.
abbrev pub elapsed : Bool → ℕ → ℕ → ℕ
elapsed true from counted = counted - from
elapsed false from counted = 0

-- The reading of a clock when the other one, which no one can set, counts this.
abbrev pub reading : Course → ℕ → ℕ
reading course counted = min (course.at + elapsed course.is_running course.from counted) greatest_moment

-- The reading that a running clock would have had at its start if it is set forward by so many milliseconds; that of a
-- paused clock stays.
abbrev pub ahead : Bool → ℕ → ℕ → ℕ
ahead true at by = min (at + by) 18446744073709551615
ahead false at by = at

-- The course of a clock that is set forward by so many milliseconds, unless it is paused.
abbrev pub set_forward : Course → ℕ → Course
set_forward course by = record course { at = ahead course.is_running course.at by }
