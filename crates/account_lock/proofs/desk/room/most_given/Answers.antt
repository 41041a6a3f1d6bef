use Rattle.std.proofs.Common.{arith}
use Rattle.account_lock.specs.Desks.{added_to}
use Rattle.account_lock.proofs.Noting.{given_length}
use Rattle.account_lock.proofs.desk.room.most_given.Goals as goal

pub returns : goal.returns
returns c = λ now is. omega (arith, given_length (added_to c.args.book.now now c.args.call.now), c.most_given.ensures.enough now is)
