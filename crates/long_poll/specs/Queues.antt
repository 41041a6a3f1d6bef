-- The order in which callers wait whose Invokes are held back.
use Rattle.std.specs.Prelude.{◌≡◌, ◌==◌, ◌&&◌, ◌<◌, ◌+◌, ◌-◌, ◌^◌, ◌⊎◌, ℕ, Bool, cond, min, List, Option, Some, position, slice_index_or, slice_set}
use Rattle.std.specs.Option.{option_or}
use Rattle.long_poll.specs.declared.line.queue.Caller.{Caller}

-- The caller invokes this function.
abbrev pub is_of : ℕ → Caller → Bool
is_of f caller = caller.function == f

-- The caller was not called since it last tried.
abbrev pub is_waiting : Caller → Bool
is_waiting caller = caller.called == 0

-- The caller has this number.
abbrev pub is_numbered : ℕ → Caller → Bool
is_numbered number caller = caller.number == number

-- The place of the first caller of a function.
abbrev pub first_of : ℕ → List Caller → Option ℕ
first_of f callers = position (is_of f) callers

-- The place of the first caller of a function that waits.
abbrev pub first_waiting : ℕ → List Caller → Option ℕ
first_waiting f callers = position (λ caller. is_of f caller && is_waiting caller) callers

-- Whom a Next of an environment of this function calls: the first caller of the function that waits; if all were called,
-- the first of them; if there is none, the first caller of all that waits.
abbrev pub next_of : ℕ → List Caller → Option ℕ
next_of f callers = option_or (option_or (first_waiting f callers) (first_of f callers)) (position is_waiting callers)

-- One caller has become what `change` makes of it, and all others are as before.
abbrev pub Changes : (Caller → Caller) → ℕ → List Caller → List Caller → Type 0
Changes change at before after = (d : Caller) → after ≡ slice_set before at (change (slice_index_or before at d))

-- The caller was called so many times more.
abbrev pub called : ℕ → Caller → Caller
called times caller = record caller { called = min (caller.called + times) (2 ^ 64 - 1) }

-- The caller tries now.
abbrev pub trying : Caller → Caller
trying caller = record caller { called = 0; tried = caller.called }

-- The caller at this place may try: it was called since it last tried, or is the first of its function.
abbrev pub HasTurn : List Caller → ℕ → Caller → Type 0
HasTurn callers at caller = (0 < caller.called) ⊎ (first_of caller.function callers ≡ Some at)

-- How often a caller was called since it tried last but once.
abbrev pub calls_of : Caller → ℕ
calls_of caller = min (caller.called + caller.tried) (2 ^ 64 - 1)

-- How often the next one is called when a caller leaves: for each call but the one that it needed; once if it was not
-- called.
abbrev pub spare_of : Caller → ℕ
spare_of caller = cond (calls_of caller == 0) 1 (calls_of caller - 1)
