use Rattle.std.proofs.Common.{take}
use Rattle.std.specs.List.{flat_map}
use Rattle.trace.specs.EnvironmentObject.{extension_object}
use Rattle.trace.specs.Telling.{Tells}
use Rattle.trace.proofs.listing.environment.say_extensions.Given as goal

abbrev pub invariant-loop-extension : goal.invariant-loop-extension
invariant-loop-extension l = Tells (flat_map (extension_object l.salt l.env) (take l.extension-index l.extensions)) l.fn.teller l.teller
