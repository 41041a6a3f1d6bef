-- What passes through a socket whose stream is read ahead, with the proofs of the laws.
use Rattle.std.proofs.Common.{◌≡◌, ℕ, List, [], ◌++◌, sym, ap, ◌∙◌, append_assoc, append-nil}
use Rattle.tokio.specs.Io.Moved.{Passes, PassesNothing, PassesInOrder}
use Rattle.http_connection.specs.declared.socket.Socket.{Socket}

-- The reads of such a socket: the bytes that had been read ahead, followed by those that its stream gave, are the bytes
-- that the reads gave, followed by those that are now read ahead.
abbrev pub ReadsBehind : {T : Type 0} → Passes T → Passes (Socket T)
ReadsBehind reads a xs b =
    (more : List ℕ) × reads a.stream more b.stream × (a.ahead.items ++ more ≡ xs ++ b.ahead.items)

-- The end is reported only if nothing is left of what was read ahead.
abbrev pub IsAtEndBehind : {T : Type 0} → (T → Type 0) → Socket T → Type 0
IsAtEndBehind is_at_end s = (s.ahead.items ≡ []) × is_at_end s.stream

-- What the stream gave is discarded, and what was read ahead is still there.
abbrev pub ThrowsAway : {T : Type 0} → Passes T → Socket T → Socket T → Type 0
ThrowsAway reads a b = (gone : List ℕ) × reads a.stream gone b.stream × (b.ahead.items ≡ a.ahead.items)

-- A socket may stay as it is: no byte is then read.
pub ReadsBehind_nothing : {T : Type 0} (reads : Passes T) → PassesNothing reads → PassesNothing (ReadsBehind reads)
ReadsBehind_nothing reads nothing a = ([], nothing a.stream, append-nil a.ahead.items)

-- Two reads, one after the other, are one read of their bytes in order.
pub ReadsBehind_in_order : {T : Type 0} (reads : Passes T) → PassesInOrder reads → PassesInOrder (ReadsBehind reads)
ReadsBehind_in_order reads in_order a xs b ys c p q = (
  p.0 ++ q.0,
  in_order a.stream p.0 b.stream q.0 c.stream p.1 q.1,
  sym (append_assoc a.ahead.items p.0 q.0) ∙ ap (λ ws. ws ++ q.0) p.2 ∙ append_assoc xs b.ahead.items q.0
      ∙ ap (λ ws. xs ++ ws) q.2 ∙ sym (append_assoc xs ys c.ahead.items),
)
