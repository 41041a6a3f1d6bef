use Rattle.std.proofs.Common.{arith}
use Rattle.handler_desk.proofs.Claiming.{enters, draws_as}
use Rattle.handler_desk.proofs.claims.Claims.claim.Goals as goal

pub load_new_seat-seat-requires : goal.load_new_seat-seat-requires
load_new_seat-seat-requires g = (let one = g.args.self.now.one_word in omega arith, enters _)

pub compare_exchange-requires : goal.compare_exchange-requires
compare_exchange-requires g =
    let begun = g.load_new_seat-seat.ensures in
    (begun.0, (let one = g.args.self.now.one_word in omega arith), draws_as _ _ _ _ _ begun.2 g.in_ok-next.ensures.1)
