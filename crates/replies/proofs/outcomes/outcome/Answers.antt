use Rattle.std.proofs.Common.{◌≡◌, refl}
use Rattle.call_types.specs.Calls.{body_of}
use Rattle.replies.specs.Outcomes.{outcome}
use Rattle.replies.proofs.outcomes.outcome.Goals as goal

pub returns : goal.returns
unfolding outcome
returns c =
    let body : c.in_ok-shared_body.field-0 ≡ body_of c.args.gist.now.source.now = c.in_ok-shared_body.ensures in
    rw (body, c.in_ok-invoke_headers.ensures, c.request_text-request.ensures.value) refl
