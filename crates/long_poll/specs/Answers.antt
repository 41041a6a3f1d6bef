-- What a poll may return.
use Rattle.std.specs.Prelude.{List, Result, Ok, Err}
use Rattle.std.specs.Arc.{arc_value}
use Rattle.call_types.specs.declared.call.Entry.{Entry}
use Rattle.long_poll.specs.declared.poll.Poll.{Poll}
use Rattle.long_poll.specs.declared.service.Service as Service
use Rattle.call_types.specs.declared.answer.Answer.{Answer}
use Rattle.account_lock.specs.declared.desk.Look.{Look}
use Rattle.account_lock.specs.declared.desk.Look.TheVariants.{Given, Waiting}

-- What a poll finds when it looks: what its service shows of its ticket, to a token that has seen what the poll's
-- token has seen.
abbrev pub found : {R S H K L T : Type 0} → Service.Ghosts S K L T → Poll R S H K L → Look → Type 0
found service poll look =
    (then : List Entry) × service.looks (arc_value poll.service) poll.token poll.ticket look then

-- A poll returns the answer that a look finds. If it returns that the bell was lost, something was heard, and a look
-- found that the ticket still waits.
abbrev pub Answers : {H E : Type 0} → (Look → Type 0) → (H → Type 0) → Result Answer E → Type 0
Answers looks hears (Ok answer) = looks (Given answer)
Answers {H} looks hears (Err lost) = ((heard : H) × hears heard) × looks Waiting
