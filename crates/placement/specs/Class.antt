-- The class of a phase, by which an environment can take an invocation.
use Rattle.std.specs.Prelude.{ℕ, Bool, true, false, Option, Some, None}
use Rattle.call_types.specs.declared.answer.Phase.{Phase}
use Rattle.call_types.specs.declared.answer.Phase.TheVariants as phase
use Rattle.placement.specs.declared.class.Class.{Class}
use Rattle.placement.specs.declared.class.Class.TheVariants.{Idle, StartingFree, ClosingFree, Taken}

-- This class if no invocation is bound; otherwise `Taken`.
abbrev pub unless_bound : Option ℕ → Class → Class
unless_bound None class = class
unless_bound (Some t) class = Taken

-- The class of a phase. An environment in phase Off takes nothing.
abbrev pub class_of : Phase → Class
class_of phase.Idle = Idle
class_of (phase.Starting deadline bound) = unless_bound bound StartingFree
class_of (phase.Closing reason until bound) = unless_bound bound ClosingFree
class_of (phase.Busy invoke deadline) = Taken
class_of phase.Off = Taken

-- Whether two classes are the same.
abbrev pub is_class : Class → Class → Bool
is_class Idle Idle = true
is_class StartingFree StartingFree = true
is_class ClosingFree ClosingFree = true
is_class Taken Taken = true
is_class _ _ = false
