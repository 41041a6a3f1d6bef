-- A replay as contracts see it.
use Rattle.account_book.specs.Run as run
use Rattle.script_replay.specs.Steps.{Position}
use Rattle.script_replay.specs.declared.line.Progress.{Progress}
use Rattle.script_replay.specs.declared.line.Progress.TheVariants.{AtStart, AfterForm, Taking}
use Rattle.script_replay.specs.declared.player.Player.{Player}

-- The state of a replay between two lines.
abbrev pub seen : Progress → run.Progress
seen AtStart = run.AtStart
seen AfterForm = run.AfterForm
seen (Taking reserves book) = run.Taking reserves book

-- The state of a replay between two bytes.
abbrev pub stand : Player → Position
stand p = record { progress = seen p.progress; line = p.line; pending = p.pending.items }
