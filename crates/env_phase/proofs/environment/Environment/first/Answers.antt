use Rattle.std.proofs.Common.{◌∙◌, ◌≡◌}
use Rattle.call_model.specs.Table.{to_waiting}
use Rattle.env_phase.specs.First.{turn_of}
use Rattle.env_phase.specs.Taking.{step_of}
use Rattle.env_phase.proofs.Turns.{answers_same, first_same, of_cell, waiting_of}
use Rattle.env_phase.proofs.Welcome.{welcome}
use Rattle.env_phase.proofs.environment.Environment.first.Goals as goal

pub phase_after-phase-requires-clause-turn : goal.phase_after-phase-requires-clause-turn
phase_after-phase-requires-clause-turn c =
    c.turn_of-turn.ensures ∙ of_cell (step_of c.args.step) c.args.self.now.stand c.args.call.now c.table-cell.result c.table-cell.ensures

pub add_extension-requires-clause-welcome : goal.add_extension-requires-clause-welcome
add_extension-requires-clause-welcome c =
    let turn : c.turn_of-turn.result ≡ turn_of (step_of c.args.step) c.args.self.now.stand c.args.call.now = c.turn_of-turn.ensures ∙ of_cell (step_of c.args.step) c.args.self.now.stand c.args.call.now c.table-cell.result c.table-cell.ensures in
    rw (c.answer.ensures.stand, turn) (welcome (step_of c.args.step) c.args.self.now.stand c.args.call.now)

pub returns-clause-stand : goal.returns-clause-stand
returns-clause-stand c =
    first_same
    (step_of c.args.step) c.args.self.now c.args.call.now c.turn_of-turn.result c.table-cell.result.waiting c.phase_after-phase.result c.request_after-request.result c.is_some.result c.is_over-stopped.result c.answer.new.self c.add_extension.new.self c.enter.new.self
    (c.turn_of-turn.ensures ∙ of_cell (step_of c.args.step) c.args.self.now.stand c.args.call.now c.table-cell.result c.table-cell.ensures)
    (waiting_of c.args.step.ticket c.args.self.now.stand c.args.call.now c.table-cell.result c.table-cell.ensures)
    c.phase_after-phase.ensures c.is_some.ensures c.request_after-request.ensures c.is_over-stopped.ensures c.answer.ensures.stand c.add_extension.ensures c.enter.ensures

pub returns-clause-given : goal.returns-clause-given
returns-clause-given c =
    let turn : c.turn_of-turn.result ≡ turn_of (step_of c.args.step) c.args.self.now.stand c.args.call.now = c.turn_of-turn.ensures ∙ of_cell (step_of c.args.step) c.args.self.now.stand c.args.call.now c.table-cell.result c.table-cell.ensures in
    let waiting : c.table-cell.result.waiting ≡ to_waiting c.args.step.ticket c.args.self.now.stand c.args.call.now = waiting_of c.args.step.ticket c.args.self.now.stand c.args.call.now c.table-cell.result c.table-cell.ensures in
    c.answer.ensures.given ∙ rw (waiting, turn) (answers_same (step_of c.args.step) c.args.self.now.stand c.args.call.now)
