-- The cells of the table of phases as the code has them: for one call, whose ticket is known.
use Rattle.std.specs.Prelude.{ℕ, if◌then◌else◌}
use Rattle.call_model.specs.Stand.{Stand, is_known, is_number}
use Rattle.call_model.specs.Table.{Cell, row, refused_state, refused_container, bad_id, unknown}
use Rattle.environment_step.specs.After.{Step}
use Rattle.extension_set.specs.declared.turn.Turn.{Turn}
use Rattle.env_phase.specs.declared.environment.cells.Cell.{Cell as OneCell}

-- What a cell means for a call with this ticket.
abbrev pub at_ticket : ℕ → Cell → OneCell
at_ticket ticket cell = record { own = cell.own; waiting = cell.waiting ticket; close = cell.close }

-- What a cell means for every call, if its answers name no ticket.
abbrev pub at_any : Cell → OneCell
at_any cell = at_ticket 0 cell

-- The row of a call by an extension, as `extension_row` of the table has it.
abbrev pub extension_cell : Stand → ℕ → OneCell → OneCell → OneCell → OneCell → OneCell → OneCell
extension_cell s x starting idle unanswered answered closing =
    if is_known s x
    then row s starting idle unanswered answered closing (at_any refused_container)
    else row s (at_any unknown) (at_any unknown) (at_any unknown) (at_any unknown) (at_any unknown)
    (at_any refused_container)

-- The row of a report on the open invocation, as `report_row` of the table has it.
abbrev pub report_cell : Stand → ℕ → OneCell → OneCell
report_cell s id cell =
    row s (at_any refused_state) (at_any refused_state) (if is_number s.request id then cell else at_any bad_id)
    (at_any refused_state) (at_any refused_state) (at_any refused_container)

-- What a cell means for the parked Nexts.
abbrev pub turn_at : Step → OneCell → Turn
turn_at step cell = record { ticket = step.ticket; now = step.now; own = cell.own; closes = cell.close }
