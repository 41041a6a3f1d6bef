use Rattle.handler_desk.specs.Seats.{OnlyLoses}
use Rattle.handler_desk.proofs.state.State.make_room.Given as goal

abbrev pub invariant-loop : goal.invariant-loop
invariant-loop l = OnlyLoses l.fn.self.seats.entries l.self.seats.entries
