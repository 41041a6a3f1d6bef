use Rattle.std.proofs.Common.{◌<◌, ap, arith, length}
use Rattle.entry_blocks.specs.Rows.{joined}
use Rattle.entry_blocks.proofs.Kept.{place_within, item_at}
use Rattle.entry_blocks.proofs.blocks.Blocks.at.Goals as goal

pub index-requires-2 : goal.index-requires-2
index-requires-2 g c =
    let there : c.args.index < length (joined c.self.inside.blocks.items) = rw (ap (λ v. length v.0) c.self.view_is) c.requires in
    omega
    (arith, c.index.result.now.ok.0, place_within c.self.inside.blocks.items c.args.index c.index.result.now c.self.invariant.are_blocks there c.index.ensures)

pub returns : goal.returns
returns g c =
    let there : c.args.index < length (joined c.self.inside.blocks.items) = rw (ap (λ v. length v.0) c.self.view_is) c.requires in
    rw (← c.self.view_is)
    (item_at c.self.inside.blocks.items c.args.index c.index.result.now c.index-2.result.now c.self.invariant.are_blocks there c.index.ensures c.index-2.ensures)
