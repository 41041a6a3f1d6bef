use Rattle.std.proofs.Common.{ℕ, [], ◌==◌, ap, ◌∙◌, sym}
use Rattle.std.proofs.lemmas.Result.{IfErr-weaker}
use Rattle.script_replay.proofs.ReadingOn.{last_is}
use Rattle.script_replay.proofs.player.play_last.Goals as goal

pub returns-clause-stopped : goal.returns-clause-stopped
returns-clause-stopped g c =
    let pending = c.args.player.now.pending in
    let last = last_is pending.items (ap (λ (n : ℕ). n == 0) (sym pending.ok.0) ∙ sym c.is_empty.ensures ∙ c.if-is_empty.false) in
    IfErr-weaker c.play_line.result _ _ (λ e stopped. rw last (stopped [])) c.play_line.ensures.stopped
