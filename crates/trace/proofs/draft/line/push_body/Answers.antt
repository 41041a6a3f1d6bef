use Rattle.std.proofs.lemmas.Result.{on_ok_weaker}
use Rattle.trace.proofs.Runs.{body_joined}
use Rattle.trace.proofs.draft.line.push_body.Goals as goal

pub returns : goal.returns
returns c =
    let form = rw c.as_slice.ensures at c.form_of-coding.ensures in
    on_ok_weaker c.push-2.result
    (λ last. body_joined c.args.after _ _ _ form.0 _ c.args.text.now _ _ _ _ form.1 form.2 c.in_ok-push_named.ensures c.in_ok-push.ensures.ok c.in_ok-share.ensures.ok last)
    c.push-2.ensures.ok
