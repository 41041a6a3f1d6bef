-- One generation of an environment: its extensions, their Nexts, and what is missing until it is ready.
-- A generation is what AWS calls one execution environment, from its Init on. Each reset begins the next generation.
use Rattle.std.specs.Prelude.{ℕ, ◌+◌, Bool, true, false, not, ◌&&◌, ◌||◌, if◌then◌else◌, ◌==◌, List, [], ◌∷◌, map}
use Rattle.std.specs.Prelude.{Option, Some, None, count_by, filter, filter_map, is_some, is_none, bytes_eq}
use Rattle.std.specs.List.{list_any}
use Rattle.call_types.specs.declared.call.Call.{Call}
use Rattle.call_types.specs.declared.call.Call.TheVariants.{RuntimeNext, Register, ExtNext, ExtInitFailure}
use Rattle.call_types.specs.declared.call.Call.TheVariants.{ExtExitFailure}
use Rattle.call_types.specs.declared.call.Entry.{Entry}
use Rattle.call_types.specs.declared.answer.Answer.{Answer}
use Rattle.call_types.specs.declared.answer.Answer.TheVariants.{Ending, Registered, Accepted}
use Rattle.call_model.specs.History.{answer_in, pending}

-- An actor, which asks for the next event: the runtime, or the extension whose identifier has this count.
pub data Actor : Type 0 where
  TheRuntime : Actor
  TheExtension : (count : ℕ) → Actor

-- An extension: the count in its identifier, its name, and whether it registered for INVOKE and for SHUTDOWN events.
pub record Extension : Type 0 where
  pub count : ℕ
  pub name : List ℕ
  pub invoke : Bool
  pub shutdown : Bool

-- The entries of a generation with their tickets, the newest first.
abbrev pub Generation : Type 0
Generation = List (ℕ × Entry)

-- The extension that a Register brought, if its answer was Registered.
abbrev pub as_registered : Call → Option Answer → Option Extension
as_registered (Register e name invoke shutdown account) (Some (Registered count)) =
    Some (record { count = count; name = name; invoke = invoke; shutdown = shutdown })
as_registered _ _ = None

-- The extensions that were registered in a generation, the newest first. (Extensions API: Register)
abbrev pub extensions : Generation → List Extension
extensions g = filter_map (λ taken. as_registered taken.1.call (answer_in taken.1.answers taken.0)) g

-- Whether a call is a Next of the actor.
abbrev pub asks : Actor → Call → Bool
asks TheRuntime (RuntimeNext e) = true
asks (TheExtension x) (ExtNext e y) = y == x
asks _ _ = false

-- The ticket of the actor's last Next in a generation.
-- For example, extension 1 sends an ExtNext at ticket 3, a Spindown at ticket 7 answers it with Ending, and extension 1
-- sends another ExtNext at ticket 8. Its last Next is 3 up to entry 7, and 8 from entry 8 on.
abbrev pub last_next : Generation → Actor → Option ℕ
last_next [] actor = None
last_next (taken ∷ g) actor = if asks actor taken.1.call then Some taken.0 else last_next g actor

-- A ticket if it is pending, otherwise `None`.
abbrev pub if_pending : List Entry → Option ℕ → Option ℕ
if_pending h None = None
if_pending h (Some t) = if pending h t then Some t else None

-- The ticket of the actor's parked Next: its last one, if that is pending.
-- (Runtime API: Next invocation; Extensions API: Next)
abbrev pub parked : List Entry → Generation → Actor → Option ℕ
parked h g actor = if_pending h (last_next g actor)

-- Whether an answer notifies an extension of the end of its environment.
abbrev pub is_ending : Option Answer → Bool
is_ending (Some (Ending reason until event)) = true
is_ending _ = false

-- The answer that an entry gives to a Next, if it gives one.
abbrev pub answer_to_next : Entry → Option ℕ → Option Answer
answer_to_next entry None = None
answer_to_next entry (Some t) = answer_in entry.answers t

-- Whether extension x was notified of the end of its environment: some entry of the generation gave Ending as its
-- answer to the last Next that x had sent by then. In the example above, this is so from entry 7 on, which answers
-- ticket 3.
-- (Extensions API: Shutdown event)
abbrev pub told : Generation → ℕ → Bool
told [] x = false
told (taken ∷ g) x = told g x || is_ending (answer_to_next taken.1 (last_next (taken ∷ g) (TheExtension x)))

-- Whether extension x asked again: it sent a Next in a later entry than the one that notified it of the end. In the
-- example, this is so from entry 8 on: the Next at ticket 3 came before extension 1 was notified.
abbrev pub asked_again : Generation → ℕ → Bool
asked_again [] x = false
asked_again (taken ∷ g) x = asked_again g x || (told g x && asks (TheExtension x) taken.1.call)

-- Whether a call reports that extension x failed. (Extensions API: Init error, Exit error)
abbrev pub reports_exit : ℕ → Call → Bool
reports_exit x (ExtInitFailure e y body) = y == x
reports_exit x (ExtExitFailure e y body) = y == x
reports_exit x _ = false

-- Whether an answer accepts a report.
abbrev pub is_accepted : Option Answer → Bool
is_accepted (Some Accepted) = true
is_accepted _ = false

-- Whether extension x exited: it reported that it failed, and the report was accepted.
abbrev pub exited : Generation → ℕ → Bool
exited g x = list_any (λ taken. reports_exit x taken.1.call && is_accepted (answer_in taken.1.answers taken.0)) g

-- The state of an extension in its generation: its parked Next, and whether it was notified of the end, has asked again
-- since, and has exited.
pub record Member : Type 0 where
  pub extension : Extension
  pub next : Option ℕ
  pub told : Bool
  pub again : Bool
  pub exited : Bool

-- The state of an extension of a generation after a history.
abbrev pub member : List Entry → Generation → Extension → Member
member h g x = record {
  extension = x;
  next = parked h g (TheExtension x.count);
  told = told g x.count;
  again = asked_again g x.count;
  exited = exited g x.count;
}

-- The states of all extensions of a generation after a history, the newest first.
unfoldable pub members : List Entry → Generation → List Member
members h g = map (member h g) (extensions g)

-- The number of extensions that are missing: those that are registered and have no parked Next, and the expected names
-- under which no extension is registered.
abbrev pub missing : List Member → List (List ℕ) → ℕ
missing members expected =
    count_by (λ s. is_none s.next) members
    + count_by (λ name. not (list_any (λ s. bytes_eq name s.extension.name) members)) expected

-- Whether a generation is ready: the runtime has a parked Next, and no extension is missing. Init ends when the
-- generation is ready; Invoke ends when it is ready and the invocation was answered.
-- (Lambda Developer Guide, "Understanding the Lambda execution environment lifecycle": Init phase, Invoke phase)
abbrev pub ready : Option ℕ → List Member → List (List ℕ) → Bool
ready runtime members expected = is_some runtime && (missing members expected == 0)

-- Whether an extension is to be notified of the end of its environment: it registered for SHUTDOWN and has not exited.
abbrev pub hears_end : Member → Bool
hears_end s = s.extension.shutdown && not s.exited

-- The extensions that a Closing waits for: those that are to be notified of the end, unless they were notified and have
-- asked again. (life cycle: Shutdown phase)
abbrev pub awaited : List Member → List Member
awaited members = filter (λ s. hears_end s && not (s.told && s.again)) members

-- Whether an extension's identifier has the count n.
abbrev pub has_count : ℕ → Member → Bool
has_count n s = s.extension.count == n
