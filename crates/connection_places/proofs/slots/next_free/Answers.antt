use Rattle.std.proofs.Common.{map}
use Rattle.connection_places.specs.Places.{standing}
use Rattle.connection_places.proofs.Standings.{from_zero}
use Rattle.connection_places.proofs.slots.next_free.Goals as goal

pub loop-at-init : goal.loop-at-init
loop-at-init g c = from_zero (map standing c.args.slots.now)
