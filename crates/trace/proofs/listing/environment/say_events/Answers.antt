use Rattle.trace.proofs.Telling.{tells_after}
use Rattle.trace.proofs.listing.environment.say_events.Goals as goal

pub returns : goal.returns
returns c = tells_after _ _ _ _ _ (rw c.hears_invoke.ensures at c.say_text_if.ensures) (rw c.hears_shutdown.ensures at c.say_text_if-2.ensures)
