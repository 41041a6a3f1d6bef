use Rattle.std.proofs.Common.{◌∙◌, append-nil, sym}
use Rattle.std.proofs.lemmas.Result.{err_from_is_err_and}
use Rattle.script_replay.proofs.Composing.{line_cut}
use Rattle.script_replay.proofs.player.play_line.Goals as goal

pub returns-in_err-write_whole-clause-stopped : goal.returns-in_err-write_whole-clause-stopped
returns-in_err-write_whole-clause-stopped g c =
    let p = err_from_is_err_and c.from_residual-in_err-write_whole.result c.from_residual-in_err-write_whole.ensures.1 in
    let took = c.in_ok-take_line.ensures.took in
    let grown = rw c.clear.ensures.items at took.grown in
    let gave = rw c.deref.ensures.value at took.gave in
    let lost = c.in_err-write_whole.ensures.err in
    rw (p.1, p.2, lost.0) (λ rest. line_cut _ _ _ _ took.text lost.1.0 lost.1.1 rest _ _ gave (sym grown ∙ sym c.deref-2.ensures.value ∙ lost.1.2) lost.1.3)

pub returns-clause-played : goal.returns-clause-played
returns-clause-played g c =
    let took = c.in_ok-take_line.ensures.took in
    let grown = rw c.clear.ensures.items at took.grown in
    let gave = rw c.deref.ensures.value at took.gave in
    record {
      text = took.text;
      took = rw (gave, append-nil);
      wrote = rw (c.deref-2.ensures.value, grown) at c.in_ok-write_whole.ensures.ok;
    }
