-- The halves of a socket that a loop watches.
use Rattle.std.specs.Prelude.{◌≡◌, ℕ, List, ◌++◌}
use Rattle.std.proofs.Common.{refl, sym, ap, ◌∙◌, append_assoc, append-nil}
use Rattle.tokio.specs.Io.Moved.{Passes, PassesNothing, PassesInOrder}
use Rattle.socket_loop.specs.declared.accepted.Accepted.{Accepted}
use Rattle.socket_loop.specs.declared.reader.Reader.{Reader}
use Rattle.socket_loop.specs.declared.unused.Unused.{Unused}
use Rattle.socket_loop.specs.declared.writer.Writer.{Writer}

-- What a read waits for that finds the socket not ready: its next event.
abbrev pub event_of : Reader → ℕ
event_of reader = reader.event.id

-- The name of a socket that was accepted.
abbrev pub name_of_accepted : Accepted → ℕ
name_of_accepted accepted = accepted.event.id

-- The name of a socket that was closed before anything was written to it.
abbrev pub name_of_unused : Unused → ℕ
name_of_unused unused = unused.event.id

-- The name of a writer's socket. It is what a write waits for that finds the socket not ready: its next event.
abbrev pub name_of : Writer → ℕ
name_of writer = writer.event.id

-- All the bytes that a writer's socket took.
abbrev pub taken_by : Writer → List ℕ
taken_by writer = writer.taken.bytes

-- The same socket took these bytes.
abbrev pub Takes : Passes Writer
Takes a xs b = (taken_by b ≡ taken_by a ++ xs) × (name_of b ≡ name_of a)

-- A writer may stay as it is: no byte is then taken.
pub Takes_nothing : PassesNothing Takes
Takes_nothing a = (sym (append-nil (taken_by a)), refl)

-- Two writes, one after the other, are one write of their bytes in order.
pub Takes_in_order : PassesInOrder Takes
Takes_in_order a xs b ys c p q =
    (q.0 ∙ ap (λ zs. zs ++ ys) p.0 ∙ append_assoc (taken_by a) xs ys, q.1 ∙ p.1)
