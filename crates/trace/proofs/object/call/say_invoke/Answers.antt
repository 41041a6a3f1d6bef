use Rattle.trace.proofs.Telling.{tells_after}
use Rattle.trace.proofs.object.call.say_invoke.Goals as goal

pub returns : goal.returns
returns c =
    tells_after _ _ _ _ _ c.say_all.ensures
    (tells_after _ _ _ _ _ c.say_body.ensures
    (tells_after _ _ _ _ _ c.say_text.ensures
    (tells_after _ _ _ _ _ c.say_all-2.ensures
    (tells_after _ _ _ _ _ c.say_trace_if.ensures c.say_all-3.ensures))))
