use Rattle.std.proofs.Common.{refl}
use Rattle.std.proofs.lemmas.Result.{IfOk-weaker}
use Rattle.script.proofs.Coded.{slice_some, slice_written}
use Rattle.script.proofs.draft.Part.take_slice.Goals as goal

pub returns-clause-left : goal.returns-clause-left
returns-clause-left c =
    IfOk-weaker c.written.result _ _
    (λ piece is. (
      refl,
      slice_written c.args.self.now.coding c.args.self.now.body c.in_ok-front.front c.split_to.new.self piece.items c.slice.result
          c.requires c.slice.ensures c.in_ok-front.ensures.front c.in_ok-front.ensures.rest is,
    ))
    c.written.ensures

pub returns-clause-some : goal.returns-clause-some
returns-clause-some c =
    IfOk-weaker c.written.result _ _
    (λ piece is. slice_some c.args.self.now.coding c.args.self.now.body c.in_ok-front.front piece.items c.slice.result
    c.requires c.slice.ensures c.in_ok-front.ensures.front is)
    c.written.ensures
