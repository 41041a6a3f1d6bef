-- A row at a ticket has each of its cells at that ticket.
use Rattle.std.proofs.Common.{◌≡◌, ◌∙◌, ap, ℕ, Bool, true, false, refl, if◌then◌else◌, is_some}
use Rattle.call_types.specs.declared.answer.Phase.{Phase}
use Rattle.call_types.specs.declared.answer.Phase.TheVariants.{Starting, Idle, Busy, Closing, Off}
use Rattle.call_model.specs.Stand.{Stand, is_known, is_number}
use Rattle.call_model.specs.Table.{Cell, row, by_phase, extension_row, report_row, refused_state, refused_container, bad_id, unknown}
use Rattle.env_phase.specs.declared.environment.cells.Cell.{Cell as OneCell}
use Rattle.env_phase.specs.Cells.{at_ticket, extension_cell, report_cell}

-- a choice of two cells
either : (t : ℕ) (b : Bool) (x y : Cell) → at_ticket t (if b then x else y) ≡ (if b then at_ticket t x else at_ticket t y)
either t true x y = refl
either t false x y = refl

pub of_row : (t : ℕ) (s : Stand) (a b c d e g : Cell)
    → at_ticket t (row s a b c d e g) ≡ row s (at_ticket t a) (at_ticket t b) (at_ticket t c) (at_ticket t d) (at_ticket t e) (at_ticket t g)
of_row t s a b c d e g = go s.phase
  where
    go : (P : Phase)
        → at_ticket t (by_phase a b c d e g s P) ≡ by_phase (at_ticket t a) (at_ticket t b) (at_ticket t c) (at_ticket t d) (at_ticket t e) (at_ticket t g) s P
    go (Starting k u) = refl
    go Idle = refl
    go (Busy p k) = either t (is_some s.request) c d
    go (Closing r k u) = refl
    go Off = refl

pub of_extension_row : (t : ℕ) (s : Stand) (x : ℕ) (a b c d e : Cell)
    → at_ticket t (extension_row s x a b c d e) ≡ extension_cell s x (at_ticket t a) (at_ticket t b) (at_ticket t c) (at_ticket t d) (at_ticket t e)
of_extension_row t s x a b c d e = go (is_known s x)
  where
    go : (k : Bool) → at_ticket t (if k then row s a b c d e refused_container else row s unknown unknown unknown unknown unknown refused_container)
        ≡ (if k then row s (at_ticket t a) (at_ticket t b) (at_ticket t c) (at_ticket t d) (at_ticket t e) (at_ticket t refused_container) else row s (at_ticket t unknown) (at_ticket t unknown) (at_ticket t unknown) (at_ticket t unknown) (at_ticket t unknown) (at_ticket t refused_container))
    go true = of_row t s a b c d e refused_container
    go false = of_row t s unknown unknown unknown unknown unknown refused_container

pub of_report_row : (t : ℕ) (s : Stand) (id : ℕ) (cell : Cell) → at_ticket t (report_row s id cell) ≡ report_cell s id (at_ticket t cell)
of_report_row t s id cell =
    of_row t s _ _ _ _ _ _
    ∙ ap (λ (x : OneCell). row s (at_ticket t refused_state) (at_ticket t refused_state) x (at_ticket t refused_state) (at_ticket t refused_state) (at_ticket t refused_container)) (either t (is_number s.request id) cell bad_id)
