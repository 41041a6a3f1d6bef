-- The state of an environment, and the role that a ticket has there.
use Rattle.std.specs.Prelude.{ℕ, Bool, true, false, ◌&&◌, if◌then◌else◌, ◌==◌, List, Option, Some, None, is_some}
use Rattle.std.specs.List.{list_any, find}
use Rattle.call_types.specs.declared.answer.Phase.{Phase}
use Rattle.call_types.specs.declared.answer.Phase.TheVariants.{Starting, Idle, Busy, Closing}
use Rattle.call_model.specs.Generation.{Member, has_count}

-- The state of an environment that follows from a history.
pub record Stand : Type 0 where
  -- The phase of its life.
  pub phase : Phase
  -- The ticket of the runtime's parked Next.
  pub runtime : Option ℕ
  -- The extensions of the present generation, the newest first.
  pub members : List Member
  -- The count in the request identifier of the waiting call.
  pub request : Option ℕ
  -- Whether the service was stopped.
  pub stopped : Bool
  -- The number of extensions that were registered, over all generations.
  pub registrations : ℕ
  -- The number of events that extensions were notified of, over all generations.
  pub events : ℕ

-- Whether an extension identifier was given out in the present generation, by the count in it.
-- (Extensions API: Lambda-Extension-Identifier)
abbrev pub is_known : Stand → ℕ → Bool
is_known s x = list_any (has_count x) s.members

-- Whether a phase is Starting.
abbrev pub is_starting : Phase → Bool
is_starting (Starting d bound) = true
is_starting _ = false

-- Whether a phase is Idle.
abbrev pub is_idle : Phase → Bool
is_idle Idle = true
is_idle _ = false

-- Whether a phase is Busy.
abbrev pub is_busy : Phase → Bool
is_busy (Busy p d) = true
is_busy _ = false

-- Whether a phase is Closing.
abbrev pub is_closing : Phase → Bool
is_closing (Closing reason until bound) = true
is_closing _ = false

-- The ticket of the invocation that is bound to a Starting or Closing environment, which serves it next.
abbrev pub bound_of : Phase → Option ℕ
bound_of (Starting d bound) = bound
bound_of (Closing reason until bound) = bound
bound_of _ = None

-- The ticket of the invocation at hand: the bound one of Starting or Closing, or the one that a Busy serves.
abbrev pub at_hand : Phase → Option ℕ
at_hand (Busy p d) = Some p
at_hand phase = bound_of phase

-- Whether there is a number, and it is n.
abbrev pub is_number : Option ℕ → ℕ → Bool
is_number None n = false
is_number (Some m) n = m == n

-- The role of a ticket at an environment.
pub data Role : Type 0 where
  NoRole : Role
  -- The waiting call: the bound invocation of Starting or Closing, or the unanswered one of Busy.
  Waiting : Role
  -- The runtime's parked Next.
  RuntimePoll : Role
  -- The parked Next of an extension.
  ExtensionPoll : Member → Role

-- Whether a ticket is that of the waiting call.
abbrev pub waits_as : Stand → ℕ → Bool
waits_as s t = is_some s.request && is_number (at_hand s.phase) t

-- The role of an extension's parked Next; no role if there is no such extension.
abbrev pub member_role : Option Member → Role
member_role None = NoRole
member_role (Some x) = ExtensionPoll x

-- The role of a ticket: the waiting call, the runtime's parked Next, an extension's parked Next, or none of them.
unfoldable pub role : Stand → ℕ → Role
role s t =
    if waits_as s t then Waiting
    else if is_number s.runtime t then RuntimePoll
    else member_role (find (λ x. is_number x.next t) s.members)
