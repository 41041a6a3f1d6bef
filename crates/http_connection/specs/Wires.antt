-- What passed through a connection's socket.
use Rattle.std.specs.Prelude.{◌≡◌, ℕ, List, [], ◌++◌}
use Rattle.std.proofs.Common.{refl, sym, ap, ◌∙◌, append_assoc, append-nil}
use Rattle.tokio.specs.Io.Moved.{Passes, PassesNothing, PassesInOrder}
use Rattle.socket_loop.specs.Halves as half
use Rattle.http_connection.specs.declared.wire.Wire.{Wire}

-- The socket's name, by which it is the one that was accepted.
abbrev pub name_of : Wire → ℕ
name_of wire = half.name_of wire.writer

-- All the bytes that the socket took.
abbrev pub taken_by : Wire → List ℕ
taken_by wire = half.taken_by wire.writer

-- All the bytes that were handed on from the socket.
abbrev pub given_by : Wire → List ℕ
given_by wire = wire.given.bytes

-- The socket gave these bytes, and took none.
abbrev pub Gives : Passes Wire
Gives a xs b = (given_by b ≡ given_by a ++ xs) × (taken_by b ≡ taken_by a) × (name_of b ≡ name_of a)

-- The socket took these bytes, and gave none.
abbrev pub Takes : Passes Wire
Takes a xs b = (taken_by b ≡ taken_by a ++ xs) × (given_by b ≡ given_by a) × (name_of b ≡ name_of a)

-- Nothing has passed yet.
abbrev pub IsFresh : Wire → Type 0
IsFresh wire = (given_by wire ≡ []) × (taken_by wire ≡ [])

joined : (a b c xs ys : List ℕ) → b ≡ a ++ xs → c ≡ b ++ ys → c ≡ a ++ (xs ++ ys)
joined a b c xs ys p q = q ∙ ap (λ zs. zs ++ ys) p ∙ append_assoc a xs ys

pub Gives_nothing : PassesNothing Gives
Gives_nothing a = (sym (append-nil (given_by a)), refl, refl)

pub Gives_in_order : PassesInOrder Gives
Gives_in_order a xs b ys c p q =
    (joined (given_by a) (given_by b) (given_by c) xs ys p.0 q.0, q.1 ∙ p.1, q.2 ∙ p.2)

pub Takes_nothing : PassesNothing Takes
Takes_nothing a = (sym (append-nil (taken_by a)), refl, refl)

pub Takes_in_order : PassesInOrder Takes
Takes_in_order a xs b ys c p q =
    (joined (taken_by a) (taken_by b) (taken_by c) xs ys p.0 q.0, q.1 ∙ p.1, q.2 ∙ p.2)
