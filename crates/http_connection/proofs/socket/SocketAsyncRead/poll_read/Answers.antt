use Rattle.std.proofs.Common.{◌≡◌, ◌≤◌, ℕ, List, [], ◌++◌, take, drop}
use Rattle.std.proofs.Common.{sym, ap, ◌∙◌, subst, arith, eqb-true, take-append-drop}
use Rattle.std.proofs.lemmas.List.{length-take, nil_from_length, take-take}
use Rattle.futures.specs.declared.task.Poll.TheVariants.{Ready}
use Rattle.tokio.specs.Io.Moved.{bytes_moved}
use Rattle.http_connection.proofs.socket.SocketAsyncRead.poll_read.Goals as goal

-- what was read is what is handed on and what is kept
shared : (ahead left came bytes : List ℕ) (count : ℕ) → ahead ≡ [] → left ≡ ahead ++ drop count came
    → take count came ≡ bytes → ahead ++ came ≡ bytes ++ left
shared ahead left came bytes count none kept front =
    ap (λ ws. ws ++ came) none ∙ sym (take-append-drop count came)
    ∙ ap (λ ws. ws ++ drop count came) front
    ∙ ap (λ ws. bytes ++ ws) (sym (kept ∙ ap (λ ws. ws ++ drop count came) none))

pub returns-in-Ready-Ok-clause-bytes : goal.returns-in-Ready-Ok-clause-bytes
returns-in-Ready-Ok-clause-bytes g c =
    let kept = c.keep_behind-count.ensures in
    let came = take c.in-Ready-Ok.read c.poll_read.new.buf in
    let within : c.keep_behind-count.result ≤ c.in-Ready-Ok.read = grind (arith, length-take, kept.bound) in (
      came,
      rw kept.same (subst
          (λ field. g.T.AsyncRead.reads c.args.self.now.stream (bytes_moved (Ready field) c.poll_read.new.buf)
          c.poll_read.new.self)
          c.in-Ready-Ok.field-0-is c.in-Ready-Ok.ensures.bytes),
      shared
          c.args.self.now.ahead.items
          c.keep_behind-count.new.self.ahead.items
          came
          (take c.keep_behind-count.result c.poll_read.new.buf)
          c.keep_behind-count.result
          (nil_from_length c.args.self.now.ahead.items (eqb-true _ 0 (sym c.if-not-is_empty.ensures)))
          kept.kept
          (take-take c.keep_behind-count.result c.in-Ready-Ok.read c.poll_read.new.buf within),
    )
