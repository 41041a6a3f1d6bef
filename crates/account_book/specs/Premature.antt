-- Which Invokes are premature: handed in just before an environment that could take them is ready again.
use Rattle.std.specs.Prelude.{ℕ, Bool, true, false, not, ◌&&◌, ◌==◌, List, Option, None, is_none}
use Rattle.std.specs.List.{list_any}
use Rattle.arn_ids.specs.declared.config.Config.{Config}
use Rattle.arn_ids.specs.Environments.{environments, function_of}
use Rattle.call_types.specs.declared.answer.Phase.{Phase}
use Rattle.call_types.specs.declared.answer.Phase.TheVariants.{Starting}
use Rattle.call_types.specs.declared.answer.Throttle.{Throttle}
use Rattle.call_types.specs.declared.answer.Throttle.TheVariants.{Function as ByFunction, Account as ByAccount}
use Rattle.call_types.specs.declared.answer.Throttle.TheVariants.{Environments as ByEnvironments}
use Rattle.call_types.specs.declared.call.Call.{Call}
use Rattle.call_types.specs.declared.call.Call.TheVariants.{Invoke}
use Rattle.call_types.specs.declared.call.Entry.{Entry}
use Rattle.call_model.specs.Life.{stand}
use Rattle.call_model.specs.Limits.{reservation, verdict, Verdict, Refuses, Admits}
use Rattle.call_model.specs.Next.{due, moment_at, first}
use Rattle.call_model.specs.Stand.{is_number}
use Rattle.env_phase.specs.Taking.{has_answered}

-- Whether what the function `own` has in flight is in the way of an Invoke of the function `f` that is refused for
-- this reason; `reserved` is the reservation of `own`. At the account's limit, every function without a reservation is
-- in the way; at the reservation of `f`, or if its environments are taken, `f` alone is. Nothing is in the way of an
-- Invoke at a reservation of 0, which admits none.
abbrev pub in_way : Throttle → ℕ → Option ℕ → ℕ → Bool
in_way ByAccount f reserved own = is_none reserved
in_way ByFunction f reserved own = (own == f) && not (is_number reserved 0)
in_way ByEnvironments f reserved own = own == f

-- Whether an environment in the way of an Invoke that is refused for this reason has answered its invocation and is
-- not ready again.
abbrev pub has_answered_in_way : Config → List Entry → ℕ → Throttle → Bool
has_answered_in_way config h f reason =
    list_any (λ e. has_answered (stand config h e)
    && in_way reason f (reservation config h (function_of config e)) (function_of config e))
    (environments config)

-- Whether nothing has started an environment in this phase: it is in Init, whose time does not run.
abbrev pub is_unstarted : Phase → Bool
is_unstarted (Starting None bound) = true
is_unstarted _ = false

-- The same, given the verdict on the Invoke. One that is admitted is premature if it would start an environment, while
-- another of its function has answered its invocation and is not ready again.
abbrev pub would_be_premature : Config → List Entry → ℕ → Verdict → Bool
would_be_premature config h f (Refuses reason) = has_answered_in_way config h f reason
would_be_premature config h f (Admits e) =
    is_unstarted (stand config h e).phase && has_answered_in_way config h f ByEnvironments
would_be_premature config h f _ = false

-- Whether a call is premature: it is an Invoke that would be throttled at this moment, or would start an environment,
-- while an environment in its way has answered its invocation and is not ready again. If an environment is due, no call
-- is premature, since the expiry may clear the way.
unfoldable pub premature : Config → List Entry → ℕ → Call → Bool
premature config h now (Invoke f qualified trace body) =
    is_none (first (due config h (moment_at h now))) && would_be_premature config h f (verdict config h f)
premature config h now _ = false
