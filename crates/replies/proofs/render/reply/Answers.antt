use Rattle.std.proofs.Common.{◌≡◌, ap, Some}
use Rattle.std.specs.Prelude.{IfOk}
use Rattle.std.proofs.lemmas.Result.{IfOk-weaker}
use Rattle.replies.specs.Outcomes.{done_with}
use Rattle.replies.specs.Replies.{reply_to}
use Rattle.replies.proofs.render.reply.Goals as goal

pub returns-in-Accepted : goal.returns-in-Accepted
unfolding reply_to
returns-in-Accepted c =
    let done : IfOk c.done_with.result (λ r. r ≡ done_with 202) = c.done_with.ensures in
    rw c.in-Accepted.is (IfOk-weaker c.done_with.result _ _ (λ r is. ap Some is) done)
