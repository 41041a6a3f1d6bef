-- A history that an account has, and histories that no account has and the headline refuses.
use Rattle.std.specs.Prelude.{List, [], ◌∷◌, Some, None}
use Rattle.arn_ids.specs.declared.config.Config.{Config}
use Rattle.call_types.specs.declared.answer.Answer.TheVariants.{Done, Stopped}
use Rattle.call_types.specs.declared.call.Call.TheVariants.{Stop}
use Rattle.call_types.specs.declared.call.Entry.{Entry}
use Rattle.call_model.specs.Sample.{account, function, invoke}

-- An Invoke of function 1 that was placed in environment 1 and has no answer yet.
abbrev pub admitted : Entry
admitted = record { moment = 0; call = invoke 1; answers = []; place = Some 1 }

-- A history in which an invocation waits in environment 1.
abbrev pub one_waits : List Entry
one_waits = admitted ∷ []

-- A history in which two invocations wait in environment 1. The second has all of one fate but that it is alone.
abbrev pub two_wait : List Entry
two_wait = admitted ∷ admitted ∷ []

-- A history in which an invocation was answered twice, by a Stop. It has all of one fate but that this was once.
abbrev pub answered_twice : List Entry
answered_twice =
    record { moment = 0; call = Stop; answers = (0, Stopped) ∷ (0, Stopped) ∷ (1, Done) ∷ []; place = None }
    ∷ admitted ∷ []

-- A configuration whose one function has a reservation of 0, so that no Invoke of it is admitted.
abbrev pub shut : Config
shut = account 1000 100 (function 3 (Some 0) [] 1 ∷ [])
