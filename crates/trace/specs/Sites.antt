-- The environments of a history, as a follower keeps them.
use Rattle.std.specs.Prelude.{◌≡◌, ℕ, ◌+◌, ◌<◌, ◌^◌, if◌then◌else◌, List, [], ◌∷◌, length, map}
use Rattle.arn_ids.specs.declared.config.Config.{Config}
use Rattle.arn_ids.specs.Environments.{count_from, environments, function_of}
use Rattle.call_types.specs.declared.call.Call.{Call}
use Rattle.call_types.specs.declared.call.Entry.{Entry}
use Rattle.call_model.specs.History.{requests, is_invoke_of}
use Rattle.call_model.specs.Life.{phase}
use Rattle.environment_step.specs.After.{Step}
use Rattle.env_phase.specs.Taking.{registered_name, IsShort}
use Rattle.trace.specs.declared.follower.arrival.Arrival.{Arrival}
use Rattle.fleet.specs.declared.reach.Reach.{Reach}
use Rattle.trace.specs.declared.follower.followed.Followed.{Followed}
use Rattle.trace.specs.Object.{Turn}
use Rattle.fleet.specs.Reaches.{reaches}
use Rattle.fleet.specs.Sites.{site as site_of, moved, IsFew as IsSiteFew}

-- A history without its newest entry.
abbrev pub older : List Entry → List Entry
older [] = []
older (entry ∷ h) = h

-- An environment after a history, and its phase before the newest entry.
abbrev pub site : Config → List Entry → ℕ → Followed
site config h e = record {
  number = e;
  requests = requests h (function_of config e);
  before = phase config (older h) e;
  site = site_of config h e;
}

-- All environments after a history, in the order of their numbers.
abbrev pub sites : Config → List Entry → List Followed
sites config h = map (site config h) (environments config)

-- How many Invokes an environment's function has had, a call included.
abbrev pub counted : Call → Followed → ℕ
counted call s = (if is_invoke_of s.site.function call then 1 else 0) + s.requests

-- What a call brings to an environment.
abbrev pub step : ℕ → ℕ → Call → Followed → Step
step ticket moment call s = record { ticket = ticket; now = moment; count = counted call s }

-- An environment after a call with this ticket, moment and reach, whether the call reaches it or not.
abbrev pub visited_by : ℕ → ℕ → Reach → Call → Followed → Followed
visited_by ticket moment reach call s = record {
  number = s.number;
  requests = counted call s;
  before = s.site.environment.stand.phase;
  site = if reaches reach s.number then moved (step ticket moment call s) call s.site else s.site;
}

-- An environment after a call that arrives.
abbrev pub visited : Arrival → Followed → Followed
visited arrival s = visited_by arrival.ticket arrival.moment arrival.reach arrival.call.now s

-- An environment as it is after the newest entry, which reached these: it moved no other.
abbrev pub seen : Reach → Followed → Followed
seen reach s = record s { before = if reaches reach s.number then s.before else s.site.environment.stand.phase }

-- An environment once a call is counted.
abbrev pub counted_in : Call → Followed → Followed
counted_in call s = record s { requests = counted call s }

-- An environment after a call that reaches it, and that is counted.
abbrev pub moved_by : Arrival → Followed → Followed
moved_by arrival s = record s {
  before = s.site.environment.stand.phase;
  site = moved (record { ticket = arrival.ticket; now = arrival.moment; count = s.requests }) arrival.call.now s.site;
}

-- An environment after a call that is counted, whether the call reaches it or not.
abbrev pub moved_if : Arrival → Followed → Followed
moved_if arrival s = if reaches arrival.reach s.number then moved_by arrival s else s

-- The environments are in the order of their numbers, from 1 on, and all there.
abbrev pub IsNumbered : List Followed → Type 0
IsNumbered ss = map (λ s. s.number) ss ≡ count_from 1 (length ss)

-- The environment's counts of events and registrations are so small that there is room for more.
abbrev pub HasRoom : Followed → Type 0
HasRoom s = IsSiteFew s.site

-- There is room for more requests too.
abbrev pub IsFew : Followed → Type 0
IsFew s = HasRoom s × (s.requests < 2 ^ 52)

-- What the newest entry made of an environment.
abbrev pub turn_of : Followed → Turn
turn_of s = record { environment = s.number; before = s.before; after = s.site.environment.stand.phase }

-- An entry that a follower can follow: its moment and the name in a Register are in their ranges.
abbrev pub IsFit : Entry → Type 0
IsFit entry = (entry.moment < 2 ^ 53) × IsShort (registered_name entry.call)
