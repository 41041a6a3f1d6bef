use Rattle.std.proofs.Common.{◌-◌, ◌∙◌, length, arith}
use Rattle.trace.specs.Sites.{moved_by}
use Rattle.trace.proofs.Reaching.{no_site, none_moves, one_moves, outside_too}
use Rattle.trace.proofs.follower.reached.take_numbered.Goals as goal

pub returns-then-end-sites : goal.returns-then-end-sites
returns-then-end-sites c =
    c.take_at.ensures no_site
    ∙ one_moves (moved_by c.args.arrival.now) c.args.env 1 (c.args.env - 1) c.args.sites.now no_site c.requires.numbered
    (omega (arith, c.if-end-ne0.true, c.if-end-sites.true)) (omega (arith, c.if-end-ne0.true))

pub returns-else-end-ne0 : goal.returns-else-end-ne0
returns-else-end-ne0 c =
    none_moves (moved_by c.args.arrival.now) c.args.env 1 c.args.sites.now c.requires.numbered
    (outside_too c.args.env (length c.args.sites.now) c.else-end-ne0.either)
