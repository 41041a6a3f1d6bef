use Rattle.std.proofs.Common.{take}
use Rattle.std.specs.List.{flat_map}
use Rattle.trace.specs.Object.{moved}
use Rattle.trace.specs.Sites.{turn_of}
use Rattle.trace.specs.Telling.{Tells}
use Rattle.trace.proofs.object.phase.say_phases.Given as goal

abbrev pub invariant-loop-site : goal.invariant-loop-site
invariant-loop-site l = Tells (flat_map (λ s. moved (turn_of s)) (take l.site-index l.sites)) l.fn.teller l.teller
