-- The own history of a function: the history of the account, in which each entry that does not concern the function is
-- replaced by a Tick. If the configuration reserves the function and no Reserve names it, this is what the account
-- would have recorded if no one else had called, the clock aside (`headline::laws::isolated`).
use Rattle.std.specs.Prelude.{ℕ, ◌==◌, Bool, true, false, if◌then◌else◌, List, [], ◌∷◌, length, Option, Some, None}
use Rattle.std.specs.Prelude.{filter}
use Rattle.call_types.specs.declared.call.Call.{Call}
use Rattle.call_types.specs.declared.call.Call.TheVariants.{Invoke, Tick, Withdraw, Stop}
use Rattle.call_types.specs.declared.call.Entry.{Entry}
use Rattle.call_types.specs.declared.answer.Answer.TheVariants.{Done}
use Rattle.arn_ids.specs.declared.config.Config.{Config}
use Rattle.arn_ids.specs.Environments.{function_of}
use Rattle.call_model.specs.History.{call_of, poll_env}
use Rattle.call_types.specs.Calls.{env_of}

-- Whether there is an environment, and it belongs to function f.
abbrev pub of_function : Config → ℕ → Option ℕ → Bool
of_function config f None = false
of_function config f (Some e) = function_of config e == f

-- Whether a call concerns function f: an Invoke of it, a call that names one of its environments, a Withdraw of a Next
-- at one of them, a Tick or a Stop.
abbrev pub is_own : Config → List Entry → ℕ → Call → Bool
is_own config h f (Invoke g qualified trace body) = g == f
is_own config h f Tick = true
is_own config h f Stop = true
is_own config h f (Withdraw t) = of_function config f (poll_env (call_of h t))
is_own config h f call = of_function config f (env_of call)

-- Whether a ticket is that of a call that concerns function f.
abbrev pub own_ticket : Config → List Entry → ℕ → ℕ → Bool
own_ticket config [] f t = false
own_ticket config (entry ∷ h) f t = if t == length h then is_own config h f entry.call else own_ticket config h f t

-- The entry of the own history for an entry of the whole one. If the call concerns the function (true), it is that
-- entry with the answers to the function's tickets alone; otherwise it is a Tick at the same moment.
abbrev pub own_entry : Bool → Config → List Entry → ℕ → Entry → Entry
own_entry true config h f entry =
    record entry { answers = filter (λ a. own_ticket config (entry ∷ h) f a.0) entry.answers }
own_entry false config h f entry =
    record { moment = entry.moment; call = Tick; answers = (length h, Done) ∷ []; place = None }

-- The own history of a function. It has an entry for each one of the whole history, so every ticket keeps its number.
unfoldable pub own : Config → List Entry → ℕ → List Entry
own config [] f = []
own config (entry ∷ h) f = own_entry (is_own config h f entry.call) config h f entry ∷ own config h f
