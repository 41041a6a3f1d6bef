-- What the relations of an account say of the reply to a call.
use Rattle.std.proofs.Common.{◌≡◌, ◌<◌, ◌≤◌, ℕ, List, ◌++◌, length, append_assoc, Option, Some, Ok, Err, inl, inr, ap, sym, ◌∙◌, subst}
use Rattle.account_lock.specs.Shown.{IsTaken, Sees}
use Rattle.account_lock.specs.Submits.{IsTurnedAway}
use Rattle.account_lock.specs.declared.desk.Refused.{Refused}
use Rattle.arn_ids.specs.declared.config.Config.{Config}
use Rattle.call_model.specs.History.{call_of}
use Rattle.call_types.specs.declared.call.Call.{Call}
use Rattle.call_types.specs.declared.call.Entry.{Entry}
use Rattle.decisions.specs.declared.decide.Decide as Decide
use Rattle.decisions.specs.declared.decide.Decision.TheVariants.{Submit}
use Rattle.lambda_wire.specs.declared.reply.Reply.{Reply}
use Rattle.long_poll.specs.Exchanges.{IsReply, anchored, service_of}
use Rattle.long_poll.specs.Moments.{moment_of}
use Rattle.long_poll.specs.Reads.{Renders}
use Rattle.long_poll.specs.Replies.{IsBeginning, IsReplyAt}
use Rattle.long_poll.specs.declared.service.bell.OneShotBell.{OneShotBell}
use Rattle.long_poll.specs.declared.service.clock.Clock as Clock
use Rattle.long_poll.specs.declared.exchange.connection.Connection.{Connection}
use Rattle.long_poll.specs.declared.service.Service as Service
use Rattle.usage_ledger.specs.Tallies.{Held}
use Rattle.usage_ledger.specs.declared.keep.Keep as Keep

-- what goes on with what goes on does too
further : (h seen then : List Entry) → IsBeginning h seen → IsBeginning seen then → IsBeginning h then
further h seen then p q =
    (q.0 ++ p.0, q.1 ∙ (ap (λ (k : List Entry). q.0 ++ k) p.1 ∙ sym (append_assoc q.0 p.0 h)))

-- Over a service whose relations are those of an account.
module _ {R S D N K L T : Type 0} {service : Service.Ghosts S K L T} {decider : Decide.Ghosts D}
    {keep : Keep.Ghosts K} (connection : Connection R S D N K L T service decider keep) (clock : Clock.Ghosts N)
    (config : Config) (most salt : ℕ)
    (takes : (had : List Entry) (before : Held) (now : ℕ) (call : Call) (bell : Option OneShotBell) (ticket : ℕ)
    (seen then : List Entry) (after : Held)
    → service.submits (service_of connection) had before now call bell (Ok (ticket, seen)) then after
    → IsTaken config most had now call ticket seen)
    (refuses : (had : List Entry) (before : Held) (now : ℕ) (call : Call) (bell : Option OneShotBell)
    (refused : Refused OneShotBell) (then : List Entry) (after : Held)
    → service.submits (service_of connection) had before now call bell (Err refused) then after
    → IsTurnedAway config most had call refused.refusal then)
    (renders : (seen : List Entry) (ticket : ℕ) (reply : Option Reply) (then : List Entry)
    → service.renders (service_of connection) seen ticket reply then
    → Renders config most salt seen ticket reply then)
    (there : (config : Config) (most : ℕ) (had : List Entry) (now : ℕ) (call : Call) (ticket : ℕ)
    (seen then : List Entry)
    → IsTaken config most had now call ticket seen → Sees config most seen then → ticket < length then)
    (later : (config : Config) (most : ℕ) (had : List Entry) (now : ℕ) (call : Call) (ticket : ℕ)
    (seen : List Entry) → IsTaken config most had now call ticket seen → IsBeginning had seen)
    (fresh : (config : Config) (most : ℕ) (had : List Entry) (now : ℕ) (call : Call) (ticket : ℕ)
    (seen : List Entry) → IsTaken config most had now call ticket seen → length had ≤ ticket)
    (stands : (config : Config) (most : ℕ) (had : List Entry) (now : ℕ) (call : Call) (ticket : ℕ)
    (seen then : List Entry)
    → IsTaken config most had now call ticket seen → Sees config most seen then → call_of then ticket ≡ call) where
  abbrev since : List Entry
  since = anchored connection

  pub replies : (call : Call) (reply : Reply) (token : List Entry) → IsReply connection clock (Submit call) reply token
      → IsReplyAt config most salt since call reply token
  replies call reply token (inl x) =
      let ticket = x.0 in
      let seen = x.1 in
      let submitted = x.2 in
      let now = moment_of submitted.reading in
      let taken = takes since submitted.before now call (Some submitted.bell) ticket seen submitted.then
      submitted.after submitted.came in
      let shown = renders seen ticket (Some reply) token x.3 in (
        further since seen token (later config most since now call ticket seen taken) shown.0.later,
        inl (
          record {
            reached = shown.0.reached;
            is = record {
              ticket = ticket;
              there = there config most since now call ticket seen token taken shown.0;
              stands = stands config most since now call ticket seen token taken shown.0;
              gives = sym shown.1;
            };
          },
          fresh config most since now call ticket seen taken,
        ),
      )
  replies call reply token (inr x) =
      let refused = x.1 in
      let submitted = x.2.0 in
      let turned : IsTurnedAway config most since call refused.refusal token =
      subst (IsTurnedAway config most since call refused.refusal) (sym x.2.2)
      (refuses since submitted.before (moment_of submitted.reading) call (Some submitted.bell) refused
      submitted.then submitted.after submitted.came) in (
        turned.sees.later,
        inr (record {
          reached = turned.sees.reached;
          refusal = refused.refusal;
          exactly = turned.exactly;
          says = x.3;
        }),
      )
