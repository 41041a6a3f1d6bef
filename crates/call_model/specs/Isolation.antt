-- Definitions used by the laws of isolation by reservation.
use Rattle.std.specs.Prelude.{◌≡◌, ℕ, false, List, [], ◌∷◌, Option, Some, None}
use Rattle.call_types.specs.declared.call.Call.{Call}
use Rattle.call_types.specs.declared.call.Call.TheVariants.{Tick}
use Rattle.call_types.specs.declared.call.Entry.{Entry}
use Rattle.call_types.specs.declared.answer.Answer.{Answer}
use Rattle.call_types.specs.declared.answer.Answer.TheVariants.{Delivered, Told, Output, Error}
use Rattle.arn_ids.specs.declared.config.Config.{Config}
use Rattle.call_model.specs.Limits.{reserves}
use Rattle.call_model.specs.Next.{IsTimely, IsLegalBy}

-- No Reserve of the history names function f.
abbrev pub IsUnnamed : ℕ → List Entry → Type 0
IsUnnamed f [] = Unit {0}
IsUnnamed f (entry ∷ h) = IsUnnamed f h × (reserves f entry.call ≡ false)

-- A call is timely, as `IsTimely` defines it, except that a Tick may be taken although environments are due. (In the
-- own history of a function, Ticks replace all entries that are not its own, even expiries.)
abbrev pub IsTimelySave : ℕ → Call → List ℕ → Type 0
IsTimelySave m Tick due = Unit {0}
IsTimelySave m call due = IsTimely m call due

-- A history that the rules allow, except that a Tick may be taken although environments are due.
abbrev pub IsLegalSave : Config → List Entry → Type 0
IsLegalSave config h = IsLegalBy IsTimelySave config h

-- The ticket of the call that an answer names, if it names one: the text of the answer is made of this call.
abbrev pub named : Answer → Option ℕ
named (Delivered p d) = Some p
named (Told p d event) = Some p
named (Output source) = Some source
named (Error source) = Some source
named _ = None

-- The ticket that an answer names, or otherwise the ticket that got the answer.
abbrev pub source_of : ℕ → Option ℕ → ℕ
source_of t None = t
source_of t (Some p) = p

-- The ticket that an answer names, if there is an answer and it names one.
abbrev pub named_in : Option Answer → Option ℕ
named_in None = None
named_in (Some a) = named a

-- Everything that the text of a ticket's answer is made of: the answer, its call, the call that the answer names (if
-- none, its own call again), and the request counts of both calls.
pub record Gist : Type 0 where
  pub answer : Option Answer
  pub call : Call
  pub count : ℕ
  pub source : Call
  pub source_count : ℕ
