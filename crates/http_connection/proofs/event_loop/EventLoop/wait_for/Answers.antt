use Rattle.std.proofs.Common.{rules, ◌≡◌, Option, Some, None, IfSome, subst}
use Rattle.http_connection.proofs.event_loop.EventLoop.wait_for.Goals as goal

of_some : {A : Type 0} (P : A → Type 0) (o : Option A) (a : A) → o ≡ Some a → IfSome o P → P a
of_some P o a is x = subst (λ o. IfSome o P) is x

pub returns-in-Err-block_on : goal.returns-in-Err-block_on
returns-in-Err-block_on g c =
    let io = c.into_io-in-Err-block_on.result in
    let conn_is : c.in-Ok.ending.value.conn ≡ c.args.conn = search rules in
    let gave = c.in-Err-block_on.ensures.left.1 (None, io) c.into_io-in-Err-block_on.ensures in
    subst (λ conn. g.C.Turns.leaves conn None io) conn_is (of_some _ c.new.result.ending c.in-Ok.ending c.new.ensures.ending gave)
