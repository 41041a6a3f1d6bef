use Rattle.std.proofs.Common.{◌/◌, arith}
use Rattle.std.proofs.lemmas.Nat.{div-add-mod', mod_below}
use Rattle.deadlines.proofs.Tree.{mends}
use Rattle.deadlines.proofs.due.mend_above.Goals as goal

pub loop-node-preserved : goal.loop-node-preserved
loop-node-preserved c =
    let above = c.loop-node.node / 2 in
    let half = div-add-mod' c.loop-node.node 2 in
    let rest = mod_below c.loop-node.node 2 (omega arith) in
    let mended = mends c.args.deadlines.now c.loop-node.firsts above (omega arith) (omega arith) c.loop-node.invariant.0 in
    (rw (c.sooner.ensures, c.first_below.ensures, c.first_below-in-loop-node.ensures) mended, omega arith, omega arith)
