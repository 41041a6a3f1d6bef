-- What an exchange gives, from where it stands.
use Rattle.std.proofs.lemmas.List.{length-replicate}
use Rattle.std.proofs.Common.{◌≡◌, ℕ, Box, suc, ◌<◌, List, length, replicate, Option, Result, Ok, Err, IfOk, MatchResult, inl, inr, arith}
use Rattle.std.specs.declared.alloc.Global.{Global}
use Rattle.call_types.specs.declared.call.Call.{Call}
use Rattle.call_types.specs.declared.call.Entry.{Entry}
use Rattle.futures.specs.Poll.{IfReady, OnPending}
use Rattle.futures.specs.Runs.{Runs}
use Rattle.futures.specs.declared.task.Poll.{Poll}
use Rattle.futures.specs.declared.task.Poll.TheVariants.{Ready, Pending}
use Rattle.http_body.specs.declared.frame.Frame.{Frame}
use Rattle.decisions.specs.declared.decide.Decision.TheVariants as decision
use Rattle.decisions.specs.declared.decide.Shown.{Shown}
use Rattle.decisions.specs.declared.decide.TraceQuery.{TraceQuery}
use Rattle.decisions.specs.declared.decide.Shown.TheVariants.{Trace}
use Rattle.http.specs.declared.request.Parts.{Parts}
use Rattle.lambda_wire.specs.declared.reply.Reply.{Reply}
use Rattle.long_poll.specs.Bodies.{Collects}
use Rattle.arn_ids.specs.Limits.{longest_body}
use Rattle.long_poll.specs.Exchanges.{Awaits, ComesOfCall, Decides, Exchanges, IsOfBody, IsBegun, IsSubmission, HasBegun, shown}
use Rattle.long_poll.specs.Outcomes.{IsHistoryOf, IsTraceOf, IsStreamOf}
use Rattle.long_poll.specs.Stages.{GivesFrom, StartsFrom}
use Rattle.long_poll.specs.declared.service.bell.Heard.{Heard}
use Rattle.long_poll.specs.declared.service.clock.Clock as Clock
use Rattle.long_poll.specs.declared.exchange.connection.Begun.{Begun}
use Rattle.long_poll.specs.declared.exchange.connection.Begun.TheVariants.{Replied, HeldBack, AsksForHistory, AsksForTrace, Parked}
use Rattle.long_poll.specs.declared.exchange.connection.Connection.{Connection}
use Rattle.long_poll.specs.declared.exchange.submission.Submission.{Submission}
use Rattle.decisions.specs.declared.decide.Decide as Decide
use Rattle.long_poll.specs.declared.exchange.Stage.{Stage}
use Rattle.long_poll.specs.declared.exchange.Stage.TheVariants.{Collecting, Submitting, Trying, Waiting}
use Rattle.long_poll.specs.declared.exchange.fault.ExchangeFault.{ExchangeFault}
use Rattle.long_poll.specs.declared.exchange.fault.ExchangeFault.TheVariants.{BodyFailed, OutOfMemory, BellLost}
use Rattle.long_poll.specs.declared.exchange.outcome.Outcome.{Outcome}
use Rattle.long_poll.specs.declared.exchange.outcome.Outcome.TheVariants as outcome
use Rattle.long_poll.specs.declared.service.Service as Service
use Rattle.long_poll.specs.declared.streamed_body.StreamedBody.{StreamedBody}
use Rattle.usage_ledger.specs.declared.keep.Keep as Keep

-- what holds while it is pending gives what else holds then
pub while_pending : {O X Y : Type 0} (r : Poll O) → (X → Y) → OnPending r X → OnPending r Y
while_pending (Ready o) f h = tt
while_pending Pending f h = f h

-- and what it gives once it is ready
pub once_ready : {O : Type 0} {X Y : O → Type 0} (r : Poll O) → ((o : O) → X o → Y o) → IfReady r X → IfReady r Y
once_ready (Ready o) f h = f o h
once_ready Pending f h = tt

-- what holds of every result that is good
pub if_ok : {X Y : Type 0} {P Q : X → Type 0} (r : Result X Y) → ((x : X) → P x → Q x) → IfOk r P → IfOk r Q
if_ok (Ok x) f h = f x h
if_ok (Err e) f h = tt

-- what is so of a body, and what follows of it
pub of_body : {P E : Type 0} (reads : P → List ℕ → Type 0) (source : Runs (Result (Frame P) E)) (head : Parts) (held : List ℕ)
    (is other : List ℕ → Type 0) → ((body : List ℕ) → is body → other body)
    → IsOfBody reads source head held is → IsOfBody reads source head held other
of_body reads source head held is other f (inl (body, read, h)) = inl (body, read, f body h)
of_body reads source head held is other f (inr (declared, h)) = inr (declared, λ body long. f body (h body long))

-- and what was so of a body of which more was held
pub of_later : {P E : Type 0} (reads : P → List ℕ → Type 0) (new old : Runs (Result (Frame P) E)) (head : Parts) (later held : List ℕ)
    (is : List ℕ → Type 0)
    → ((r : Result (List ℕ) ExchangeFault) → Collects reads new later r → Collects reads old held r)
    → IsOfBody reads new head later is → IsOfBody reads old head held is
of_later reads new old head later held is same (inl (body, read, h)) = inl (body, same (Ok body) read, h)
of_later reads new old head later held is same (inr h) = inr h

-- there are bodies that are longer than any length
some_longer : {Q : Type 0} (most : ℕ) → ((body : List ℕ) → most < length body → Q) → Q
some_longer most f =
    let zero_byte : ℕ = 0 in
    let same : length (replicate (suc most) zero_byte) ≡ suc most = length-replicate (suc most) zero_byte in
    f (replicate (suc most) zero_byte) (omega (arith, same))

-- what is so of every body
pub whatever_body : {P E : Type 0} (reads : P → List ℕ → Type 0) (source : Runs (Result (Frame P) E)) (head : Parts)
    (held : List ℕ) (is : List ℕ → Type 0) {Q : Type 0} → ((body : List ℕ) → is body → Q)
    → IsOfBody reads source head held is → Q
whatever_body reads source head held is f (inl (body, read, h)) = f body h
whatever_body reads source head held is f (inr (declared, h)) = some_longer longest_body (λ body long. f body (h body long))

module _ {R S D N K L T : Type 0} {service : Service.Ghosts S K L T} {decider : Decide.Ghosts D} {keep : Keep.Ghosts K}
    (connection : Connection R S D N K L T service decider keep) (clock : Clock.Ghosts N) where
  -- a call was submitted, as was decided
  pub begun_submitted : (head : Parts) (body : List ℕ) (call : Call)
      → Decides connection head body (decision.Submit call)
      → (begun : Begun L) → IsBegun connection clock call begun → HasBegun connection clock head body begun
  begun_submitted head body call made (Replied reply token) h = (decision.Submit call, made, inr h)
  begun_submitted head body call made (HeldBack held) h = (rw h.0 made, h.1)
  begun_submitted head body call made (AsksForHistory from) h = absurd h
  begun_submitted head body call made (AsksForTrace query) h = absurd h
  begun_submitted head body call made (Parked ticket heard token) h = (call, made, h)

  module _ {B P E : Type 0} (yields : B → Runs (Result (Frame P) E)) (reads : P → List ℕ → Type 0)
      {H : Type 0} (shows : Shown → H → Type 0) where
    -- what comes of a later body may come of this one
    pub exchanges_later : (parts : Parts) (new old : B) (later held : List ℕ)
        → ((r : Result (List ℕ) ExchangeFault) → Collects reads (yields new) later r → Collects reads (yields old) held r)
        → (r : Result (Outcome H L) ExchangeFault) → Exchanges connection clock shows reads (yields new) parts later r
        → Exchanges connection clock shows reads (yields old) parts held r
    exchanges_later parts new old later held same (Ok answer) h = of_later reads (yields new) (yields old) parts later held _ same h
    exchanges_later parts new old later held same (Err BellLost) h = of_later reads (yields new) (yields old) parts later held _ same h
    exchanges_later parts new old later held same (Err OutOfMemory) h = tt
    exchanges_later parts new old later held same (Err BodyFailed) h = same (Err BodyFailed) h

    -- its call was submitted, and this came of the wait
    pub gives_answer : (stage : Stage B L) (ticket : ℕ) (heard : Heard) (seen : List Entry)
        → StartsFrom connection clock yields reads stage (Ok (Parked ticket heard seen))
        → (r : Result (Outcome H L) ExchangeFault) → Awaits (shown connection seen) ticket r
        → GivesFrom connection clock yields reads shows stage r
    gives_answer (Collecting parts collecting declared) ticket heard seen h (Ok (outcome.Reply reply token)) rendered =
        of_body reads (yields collecting.body) parts collecting.held _ _
        (λ body b. (decision.Submit b.0, b.1, inl (ticket, seen, b.2.0, rendered))) h
    gives_answer (Collecting parts collecting declared) ticket heard seen h (Ok (outcome.History body)) rendered = absurd rendered
    gives_answer (Collecting parts collecting declared) ticket heard seen h (Ok (outcome.Trace body)) rendered = absurd rendered
    gives_answer (Collecting parts collecting declared) ticket heard seen h (Err BellLost) rendered =
        of_body reads (yields collecting.body) parts collecting.held _ _
        (λ body b. (b.0, b.1, (ticket, heard, seen, b.2, rendered))) h
    gives_answer (Collecting parts collecting declared) ticket heard seen h (Err OutOfMemory) rendered = tt
    gives_answer (Collecting parts collecting declared) ticket heard seen h (Err BodyFailed) rendered = absurd rendered.1
    gives_answer (Submitting held) ticket heard seen h (Ok (outcome.Reply reply token)) rendered = inl (ticket, seen, h.0, rendered)
    gives_answer (Submitting held) ticket heard seen h (Ok (outcome.History body)) rendered = absurd rendered
    gives_answer (Submitting held) ticket heard seen h (Ok (outcome.Trace body)) rendered = absurd rendered
    gives_answer (Submitting held) ticket heard seen h (Err BellLost) rendered = (ticket, heard, seen, h, rendered)
    gives_answer (Submitting held) ticket heard seen h (Err OutOfMemory) rendered = tt
    gives_answer (Submitting held) ticket heard seen h (Err BodyFailed) rendered = absurd rendered.1
    gives_answer Trying ticket heard seen h r rendered = absurd h
    gives_answer (Waiting t heard' before) ticket heard seen h r rendered = absurd h

    -- it has its reply
    pub gives_reply : (stage : Stage B L) (reply : Reply) (token : List Entry)
        → StartsFrom connection clock yields reads stage (Ok (Replied reply token))
        → GivesFrom connection clock yields reads shows stage (Ok (outcome.Reply reply token))
    gives_reply (Collecting parts collecting declared) reply token h = h
    gives_reply (Submitting held) reply token h = inr h
    gives_reply Trying reply token h = absurd h
    gives_reply (Waiting t heard before) reply token h = absurd h

    -- it has none
    pub gives_fault : (stage : Stage B L) (fault : ExchangeFault)
        → StartsFrom connection clock yields reads stage (Err fault)
        → GivesFrom connection clock yields reads shows stage (Err fault)
    gives_fault (Collecting parts collecting declared) BodyFailed h = h
    gives_fault (Collecting parts collecting declared) OutOfMemory h = tt
    gives_fault (Collecting parts collecting declared) BellLost h = absurd h
    gives_fault (Submitting held) BodyFailed h = absurd h
    gives_fault (Submitting held) OutOfMemory h = tt
    gives_fault (Submitting held) BellLost h = absurd h
    gives_fault Trying fault h = absurd h
    gives_fault (Waiting t heard token) fault h = absurd h

    -- its call is held back, and this came of it in the end
    pub gives_held : (stage : Stage B L) (held : Box Submission Global)
        → StartsFrom connection clock yields reads stage (Ok (HeldBack held))
        → (r : Result (Outcome H L) ExchangeFault) → ComesOfCall connection clock held.value.call r
        → GivesFrom connection clock yields reads shows stage r
    gives_held (Collecting parts collecting declared) held h (Ok (outcome.Reply reply token)) came =
        of_body reads (yields collecting.body) parts collecting.held _ _
        (λ body b. (decision.Submit held.value.call, b.0, came)) h
    gives_held (Collecting parts collecting declared) held h (Ok (outcome.History body)) came = absurd came
    gives_held (Collecting parts collecting declared) held h (Ok (outcome.Trace body)) came = absurd came
    gives_held (Collecting parts collecting declared) held h (Err BellLost) came =
        of_body reads (yields collecting.body) parts collecting.held _ _ (λ body b. (held.value.call, b.0, came)) h
    gives_held (Collecting parts collecting declared) held h (Err OutOfMemory) came = tt
    gives_held (Collecting parts collecting declared) held h (Err BodyFailed) came = absurd came
    gives_held (Submitting before) held h r came = rw (← h.0) came
    gives_held Trying held h r came = absurd h
    gives_held (Waiting t heard token) held h r came = absurd h

  module _ {B P E : Type 0} (yields : B → Runs (Result (Frame P) E)) (reads : P → List ℕ → Type 0) where
    -- a call that is held back can be submitted
    pub holds_held : (stage : Stage B L) (held : Box Submission Global)
        → StartsFrom connection clock yields reads stage (Ok (HeldBack held)) → IsSubmission connection held.value
    holds_held (Collecting parts collecting declared) held h =
        whatever_body reads (yields collecting.body) parts collecting.held _ (λ body b. b.1) h
    holds_held (Submitting before) held h = h.1
    holds_held Trying held h = absurd h
    holds_held (Waiting t heard token) held h = absurd h

  module _ {B P E : Type 0} (yields : B → Runs (Result (Frame P) E)) (reads : P → List ℕ → Type 0) (s : S)
      (since : List Entry) where
    -- it asks for the history, and this shows it
    pub gives_history : (stage : Stage B L) (from : Option ℕ)
        → StartsFrom connection clock yields reads stage (Ok (AsksForHistory from))
        → (r : Result (Outcome (StreamedBody R S T K L) L) ExchangeFault)
        → MatchResult r (IsHistoryOf service s since from) (λ fault. fault ≡ OutOfMemory)
        → GivesFrom connection clock yields reads (IsStreamOf service s since) stage r
    gives_history (Collecting parts collecting declared) from h (Ok (outcome.Reply reply token)) is = absurd is
    gives_history (Collecting parts collecting declared) from h (Ok (outcome.History body)) is =
        of_body reads (yields collecting.body) parts collecting.held _ _ (λ body b. (from, b, is)) h
    gives_history (Collecting parts collecting declared) from h (Ok (outcome.Trace body)) is = absurd is
    gives_history (Collecting parts collecting declared) from h (Err fault) is = rw is tt
    gives_history (Submitting held) from h r is = absurd h
    gives_history Trying from h r is = absurd h
    gives_history (Waiting t heard token) from h r is = absurd h

    -- it asks for the trace, and this shows it
    pub gives_trace : (stage : Stage B L) (query : TraceQuery)
        → StartsFrom connection clock yields reads stage (Ok (AsksForTrace query))
        → (r : Result (Outcome (StreamedBody R S T K L) L) ExchangeFault)
        → MatchResult r (IsTraceOf service s since (Trace query)) (λ fault. fault ≡ OutOfMemory)
        → GivesFrom connection clock yields reads (IsStreamOf service s since) stage r
    gives_trace (Collecting parts collecting declared) query h (Ok (outcome.Reply reply token)) is =
        of_body reads (yields collecting.body) parts collecting.held _ _
        (λ body b. (decision.Show (Trace query), b, is)) h
    gives_trace (Collecting parts collecting declared) query h (Ok (outcome.History body)) is = absurd is
    gives_trace (Collecting parts collecting declared) query h (Ok (outcome.Trace body)) is =
        of_body reads (yields collecting.body) parts collecting.held _ _ (λ body b. (query, b, is)) h
    gives_trace (Collecting parts collecting declared) query h (Err fault) is = rw is tt
    gives_trace (Submitting held) query h r is = absurd h
    gives_trace Trying query h r is = absurd h
    gives_trace (Waiting t heard token) query h r is = absurd h
