-- A call that is about to be answered, in terms of what is kept of the history before it.
use Rattle.std.specs.Prelude.{◌≡◌, ℕ, ◌<◌, ◌≤◌, ◌^◌, List, [], length, reverse, Option, None}
use Rattle.arn_ids.specs.declared.config.Config.{Config}
use Rattle.arn_ids.specs.Environments.{owners}
use Rattle.call_types.specs.declared.answer.Answer.{Answer}
use Rattle.call_types.specs.declared.call.Call.{Call}
use Rattle.call_types.specs.declared.call.Entry.{Entry}
use Rattle.call_model.specs.Limits.{place_for}
use Rattle.call_model.specs.Next.{IsLegal, Follows, entry_of, entered}
use Rattle.concurrency_pool.specs.Meets.{numbers}
use Rattle.concurrency_pool.specs.Numbers.{Numbers}
use Rattle.env_phase.specs.Taking.{registered_name}
use Rattle.account_book.specs.declared.crew.Arrival.{Arrival}
use Rattle.fleet.specs.declared.site.Site.{Site}
use Rattle.account_book.specs.Answering.{most_answers}
use Rattle.account_book.specs.Crew.{Crew}
use Rattle.fleet.specs.Sites.{sites}
use Rattle.account_book.specs.Taking.{request_counts, IsKnown, AllKnown}

-- A call at a moment after a history, with its place: the call may follow the history, and the environments and the
-- pool that are kept are those of the history.
pub record IsReady (config : Config) (h : List Entry) (now : ℕ) (call : Call) (place : Option ℕ) (all : List Site)
    (pool : Numbers) : Type 0 where
  pub legal : IsLegal config h
  pub all_known : AllKnown config h
  pub follows : Follows config h (entry_of config h now call)
  pub known : IsKnown config call
  pub placed : place ≡ place_for config h call
  pub is : all ≡ sites config h
  pub pool_is : pool ≡ numbers config h

-- What holds when a call arrives at the environments: its ticket is the number of entries before it, which is below
-- 2^32, and its moment is below 2^53; the counts of Invokes include it; and its list of answers is empty, with room
-- for the most that it can give.
pub record IsArriving (config : Config) (entries : List Entry) (arrival : Arrival) (place : Option ℕ) (crew : Crew)
    (answers : List (ℕ × Answer) × ℕ) : Type 0 where
  pub moment : arrival.moment < 2 ^ 53
  pub short : length entries < 2 ^ 32
  pub ticket : arrival.ticket ≡ length entries
  pub ready : IsReady config (reverse entries) arrival.moment arrival.call.now place crew.sites crew.pool
  pub counts : arrival.requests.now
      ≡ request_counts config (entered config (reverse entries) arrival.moment arrival.call.now)
  pub room : most_answers crew.widest (length (owners config)) arrival.call.now ≤ answers.1
  pub empty : answers.0 ≡ []

-- What holds of the environments after the call: they are those of the history with the call, and only a Register can
-- change the greatest number of extensions.
pub record IsMoved (config : Config) (h : List Entry) (arrival : Arrival) (before after : Crew) : Type 0 where
  pub sites : after.sites ≡ sites config (entered config h arrival.moment arrival.call.now)
  pub widest : registered_name arrival.call.now ≡ None → after.widest ≡ before.widest
