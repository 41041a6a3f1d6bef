use Rattle.std.proofs.Common.{◌∙◌, arith}
use Rattle.std.proofs.lemmas.Result.{IfOk-weaker}
use Rattle.script.proofs.Coded.{front_joined, front_some, front_short}
use Rattle.script.proofs.draft.Draft.cut.Goals as goal

pub returns-clause-joined : goal.returns-clause-joined
returns-clause-joined c =
    IfOk-weaker c.written.result _ _
    (λ piece is. rw c.in_ok-put_back.ensures (front_joined c.args.most c.args.text.items piece.items c.in_ok-front.rest c.args.self.now (is ∙ c.in_ok-front.ensures.0) c.in_ok-front.ensures.1))
    c.written.ensures

pub returns-clause-some : goal.returns-clause-some
returns-clause-some c =
    IfOk-weaker c.written.result _ _
    (λ piece is none. absurd (front_some c.args.most c.args.text.items piece.items c.requires (omega (arith, c.if-len-most.false, c.len.ensures, c.args.text.ok.0)) (is ∙ c.in_ok-front.ensures.0) none))
    c.written.ensures

pub returns-clause-short : goal.returns-clause-short
returns-clause-short c =
    IfOk-weaker c.written.result _ _
    (λ piece is. front_short c.args.most c.args.text.items piece.items (omega (arith, c.if-len-most.false, c.len.ensures, c.args.text.ok.0)) (is ∙ c.in_ok-front.ensures.0))
    c.written.ensures
