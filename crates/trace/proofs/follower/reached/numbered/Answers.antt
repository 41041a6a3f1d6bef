use Rattle.std.proofs.Common.{◌≡◌, ◌-◌, ◌∙◌, length, take, drop, ap, sym, arith}
use Rattle.trace.proofs.Reaching.{none_has, one_has, outside}
use Rattle.trace.proofs.follower.reached.numbered.Goals as goal

pub returns-then-end-eq0 : goal.returns-then-end-eq0
returns-then-end-eq0 c = sym (none_has c.args.env 1 c.args.sites.now c.requires (outside c.args.env (length c.args.sites.now) c.then-end-eq0.either))

pub returns : goal.returns
returns c =
    ap (λ n. take n (drop (c.args.env - 1) c.args.sites.now)) (let one : c.args.env - (c.args.env - 1) ≡ 1 = omega (arith, c.if-end-eq0.false) in one)
    ∙ one_has c.args.env 1 (c.args.env - 1) c.args.sites.now c.requires
    (omega (arith, c.if-end-eq0.false, c.if-end-sites.false)) (omega (arith, c.if-end-eq0.false))
