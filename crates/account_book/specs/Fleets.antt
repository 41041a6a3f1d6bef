-- What a call changes at the environments that it reaches, and what is kept beside them.
use Rattle.std.specs.Prelude.{◌≡◌, ℕ, suc, ◌≤◌, Bool, ◌==◌, ◌&&◌, List, [], ◌∷◌, length, map, count_by}
use Rattle.std.specs.Prelude.{Option, All}
use Rattle.arn_ids.specs.Environments.{numbered}
use Rattle.arn_ids.specs.Limits.{most_environments, most_extensions}
use Rattle.call_types.specs.declared.answer.Answer.{Answer}
use Rattle.call_types.specs.declared.call.Call.{Call}
use Rattle.environment_step.specs.After.{Step, put}
use Rattle.call_model.specs.Laws.{is_taken}
use Rattle.call_model.specs.Next.{deadline_of, has_come}
use Rattle.concurrency_pool.specs.Numbers.{Numbers}
use Rattle.concurrency_pool.specs.declared.pool.Usage.{Usage}
use Rattle.env_phase.specs.Taking.{given, unused}
use Rattle.placement.specs.Class.{class_of}
use Rattle.placement.specs.declared.places.Place.{Place}
use Rattle.account_book.specs.declared.crew.Arrival.{Arrival}
use Rattle.account_book.specs.declared.crew.Fleet.TheInside.{Inside}
use Rattle.fleet.specs.Sites.{moved as site_moved}
use Rattle.fleet.specs.declared.site.Site.{Site}
use Rattle.account_book.specs.Crew.{Crew}

-- A placeholder: the environment for a number that no environment has.
abbrev pub no_site : Site
no_site = record {
  function = 0;
  environment = record { fixed = record { timeout = 0; expected = [] }; stand = unused };
}

-- The environment with a number.
abbrev pub site_at : List Site → ℕ → Site
site_at sites e = numbered no_site sites e

-- What a call brings to an environment: its ticket, its moment, and of the requests (the count of Invokes of each
-- function) the count of the environment's function.
abbrev pub site_step : ℕ → ℕ → List ℕ → Site → Step
site_step ticket now requests site = record { ticket = ticket; now = now; count = numbered 0 requests site.function }

-- An environment after a call.
abbrev pub moved : ℕ → ℕ → List ℕ → Call → Site → Site
moved ticket now requests call site = site_moved (site_step ticket now requests site) call site

-- The answers that a call gives at an environment.
abbrev pub moves_at : ℕ → ℕ → List ℕ → Call → Site → List (ℕ × Answer)
moves_at ticket now requests call site = given site.environment (site_step ticket now requests site) call

-- An environment after a call that arrives.
abbrev pub moved_by : Arrival → Site → Site
moved_by arrival site = moved arrival.ticket arrival.moment arrival.requests.now arrival.call.now site

-- The answers that a call that arrives gives at an environment.
abbrev pub moves_by : Arrival → Site → List (ℕ × Answer)
moves_by arrival site = moves_at arrival.ticket arrival.moment arrival.requests.now arrival.call.now site

-- A list of answers in ticket order, after more answers (`moves`) were put in their places.
abbrev pub put_all : List (ℕ × Answer) → List (ℕ × Answer) → List (ℕ × Answer)
put_all [] answers = answers
put_all (a ∷ moves) answers = put_all moves (put a answers)

-- A list of answers after those of each environment, one environment after the other, were put in their places.
abbrev pub merged : (Site → List (ℕ × Answer)) → List Site → List (ℕ × Answer) → List (ℕ × Answer)
merged moves [] answers = answers
merged moves (site ∷ sites) answers = merged moves sites (put_all (moves site) answers)

-- Whether an environment belongs to a function and has an invocation.
abbrev pub serves_function : ℕ → Site → Bool
serves_function f site = (site.function == f) && is_taken site.environment.stand.phase

-- The usages of the functions numbered from `f` on, with as many invocations in flight as the function has
-- environments that have an invocation.
abbrev pub flown_from : List Site → ℕ → List Usage → List Usage
flown_from sites f [] = []
flown_from sites f (usage ∷ usages) =
    record usage { in_flight = count_by (serves_function f) sites } ∷ flown_from sites (suc f) usages

-- A pool in which each function has as many invocations in flight as environments that have an invocation.
abbrev pub flown : List Site → Numbers → Numbers
flown sites pool = record pool { functions = flown_from sites 1 pool.functions }

-- The moment at which the phase of an environment ends by itself, if it does.
abbrev pub deadline_at : Site → Option ℕ
deadline_at site = deadline_of site.environment.stand.phase

-- Whether the deadline of an environment has come at a moment.
abbrev pub is_site_due : ℕ → Site → Bool
is_site_due now site = has_come now (deadline_at site)

-- An environment's function, and what its phase means for the placement of the function's next invocation.
abbrev pub site_place : Site → Place
site_place site = record { function = site.function; class = class_of site.environment.stand.phase }

-- An environment of a function with a number from 1 to `n`.
abbrev pub IsOwned : ℕ → Site → Type 0
IsOwned n site = (1 ≤ site.function) × (site.function ≤ n)

-- The environments that a fleet keeps, with their pool.
abbrev pub crew : Inside → Crew
crew f = record { sites = f.sites.items; pool = f.pool; widest = f.widest }

-- What holds of every fleet: what is kept beside the environments agrees with them, each environment belongs to a
-- function, and none has more than `widest` extensions, which is at most 10. There are at most `most_environments` of
-- them.
pub record IsFleet (f : Inside) : Type 0 where
  pub due : f.due ≡ map deadline_at f.sites.items
  pub places : f.places ≡ map site_place f.sites.items
  pub pool : f.pool ≡ flown f.sites.items f.pool
  pub owned : All (IsOwned (length f.pool.functions)) f.sites.items
  pub narrow : All (λ site. length site.environment.stand.members ≤ f.widest) f.sites.items
  pub ten : f.widest ≤ most_extensions
  pub few : length f.sites.items ≤ most_environments
