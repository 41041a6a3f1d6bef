-- The stages of a request that is handed over, and of a handler's own request.
use Rattle.std.specs.Prelude.{◌≡◌, ℕ, List, Option, Some, None, Result, Ok, Err}
use Rattle.futures.specs.Channel.{completed_source}
use Rattle.handler_desk.specs.Piped.{emptied_source}
use Rattle.handler_desk.specs.declared.put.Put.{Put}
use Rattle.handler_desk.specs.declared.pipe.PipeSender.{PipeSender}
use Rattle.handler_desk.specs.declared.posted.Posted.{Posted}
use Rattle.http_front.specs.declared.at_desk.fault.HandedFault.{HandedFault}
use Rattle.http_front.specs.declared.at_desk.flowing.Flowing.{Flowing}
use Rattle.http_front.specs.declared.at_desk.handed.HandedStage.{HandedStage}
use Rattle.http_front.specs.declared.at_desk.handed.HandedStage.TheVariants as handed
use Rattle.http_front.specs.declared.at_desk.of_handler.OwnStage.{OwnStage}
use Rattle.http_front.specs.declared.at_desk.of_handler.OwnStage.TheVariants as own

-- A request that is handed over can be polled: while its body is collected, that can be.
abbrev pub CanGoOn : {B : Type 0} → (B → Type 0) → HandedStage B → Type 0
CanGoOn can_poll (handed.Collecting parts body) = can_poll body.body
CanGoOn can_poll (handed.Waiting put) = Unit {0}

-- What the desk gave for a request, if that waits.
abbrev pub put_of : {B : Type 0} → HandedStage B → Option Put
put_of (handed.Collecting parts body) = None
put_of (handed.Waiting put) = Some put

-- What has come of a request that is then at this stage: nothing was posted if it does not wait.
abbrev pub Gave : {B : Type 0} → HandedStage B → Result Posted HandedFault → Type 0
Gave (handed.Collecting parts body) (Ok posted) = ⊥
Gave (handed.Collecting parts body) (Err fault) = Unit {0}
Gave (handed.Waiting put) (Ok posted) = posted.id ≡ put.id
Gave (handed.Waiting put) (Err fault) = Unit {0}

-- The second stage can follow the first: a request that waits has one identifier.
abbrev pub Follows : {B : Type 0} → HandedStage B → HandedStage B → Type 0
Follows (handed.Collecting parts body) after = Unit {0}
Follows (handed.Waiting put) (handed.Collecting parts body) = ⊥
Follows (handed.Waiting put) (handed.Waiting after) = after.id ≡ put.id

-- The sources that a request which is handed over waits for.
abbrev pub WaitsFor : {B : Type 0} → (B → ℕ → Type 0) → HandedStage B → ℕ → Type 0
WaitsFor needs (handed.Collecting parts body) source = needs body.body source
WaitsFor needs (handed.Waiting put) source = source ≡ completed_source put.given

-- The sources that a post waits for whose body is passed on: those of the body; or, while bytes that have come are left,
-- that of its requester.
abbrev pub AwaitsBehind : {B : Type 0} → (B → ℕ → Type 0) → Option (List ℕ) → B → PipeSender → ℕ → Type 0
AwaitsBehind needs None body sender source = needs body source
AwaitsBehind needs (Some rest) body sender source = source ≡ emptied_source sender

abbrev pub AwaitsFlow : {B : Type 0} → (B → ℕ → Type 0) → Flowing B → ℕ → Type 0
AwaitsFlow needs flowing = AwaitsBehind needs flowing.rest flowing.body flowing.sender

-- A handler's own request can be polled.
abbrev pub CanServe : {B : Type 0} → (B → Type 0) → OwnStage B → Type 0
CanServe can_poll (own.Failing id body) = can_poll body.body
CanServe can_poll (own.Refused fault body) = can_poll body.body
CanServe can_poll (own.Posting posted flowing) = can_poll flowing.body
CanServe can_poll own.Asking = Unit {0}
CanServe can_poll (own.Hearing heard) = Unit {0}

-- The sources that a handler's own request waits for.
abbrev pub WaitsAt : {B : Type 0} → (B → ℕ → Type 0) → OwnStage B → ℕ → Type 0
WaitsAt needs (own.Failing id body) source = needs body.body source
WaitsAt needs (own.Refused fault body) source = needs body.body source
WaitsAt needs (own.Posting posted flowing) source = AwaitsFlow needs flowing source
WaitsAt needs own.Asking source = ⊥
WaitsAt needs (own.Hearing heard) source = source ≡ completed_source heard
