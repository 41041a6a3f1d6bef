-- What is known of a ticket.
use Rattle.std.specs.Prelude.{Option, Some, None}
use Rattle.call_types.specs.declared.answer.Answer.{Answer}
use Rattle.account_lock.specs.declared.desk.Look.{Look}
use Rattle.account_lock.specs.declared.desk.Look.TheVariants.{Given, Waiting}

-- What is known of a ticket with this answer, or with none: Given with the answer, or Waiting.
abbrev pub look_of : Option Answer → Look
look_of None = Waiting
look_of (Some a) = Given a
