-- The reservations that a call leaves in force.
use Rattle.std.specs.Prelude.{◌≡◌, ℕ, ◌≤◌, true, length, Option, Some}
use Rattle.call_types.specs.declared.answer.Answer.{Answer}
use Rattle.call_types.specs.declared.answer.Answer.TheVariants.{Reserved, Unreserved}
use Rattle.call_types.specs.declared.call.Call.{Call}
use Rattle.call_types.specs.declared.call.Call.TheVariants.{Reserve}
use Rattle.concurrency_pool.specs.Numbers.{Numbers}
use Rattle.concurrency_pool.specs.Pools.{may_reserve, with_reserved}

-- The pool after a call with this answer: a Reserve that is accepted puts its reservation in force, or removes it; any
-- other call leaves the pool unchanged.
abbrev pub in_force : Call → Option Answer → Numbers → Numbers
in_force (Reserve f count) (Some (Reserved n)) pool = with_reserved pool f count
in_force (Reserve f count) (Some Unreserved) pool = with_reserved pool f count
in_force _ _ pool = pool

-- A reservation that the pool allows, of a function that exists.
abbrev pub IsAllowed : Numbers → ℕ → Option ℕ → Type 0
IsAllowed pool f count = (1 ≤ f) × (f ≤ length pool.functions) × (may_reserve pool f count ≡ true)

-- If the call is a Reserve and this answer accepts it, its reservation is allowed.
abbrev pub IsInOrder : Numbers → Call → Option Answer → Type 0
IsInOrder pool (Reserve f count) (Some (Reserved n)) = IsAllowed pool f count
IsInOrder pool (Reserve f count) (Some Unreserved) = IsAllowed pool f count
IsInOrder pool _ _ = Unit {0}
