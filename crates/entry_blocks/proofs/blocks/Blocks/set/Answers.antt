use Rattle.std.proofs.Common.{◌<◌, ◌%◌, refl, ap, arith, length}
use Rattle.std.specs.Vec.{with_item}
use Rattle.entry_blocks.specs.Rows.{joined}
use Rattle.entry_blocks.proofs.Kept.{place_within, replaced, row_replaced}
use Rattle.entry_blocks.proofs.blocks.Blocks.set.Goals as goal

pub index_mut-requires-2 : goal.index_mut-requires-2
index_mut-requires-2 g c =
    let there : c.args.index < length (joined c.self.inside.blocks.items) = rw (ap (λ v. length v.0) c.self.view_is) c.requires in
    omega
    (arith, c.index_mut.result.now.ok.0, place_within c.self.inside.blocks.items c.args.index c.index_mut.result.now c.self.invariant.are_blocks there c.index_mut.ensures.value)

pub invariant_of-self : goal.invariant_of-self
invariant_of-self g c =
    let there : c.args.index < length (joined c.self.inside.blocks.items) = rw (ap (λ v. length v.0) c.self.view_is) c.requires in
    row_replaced c.self.inside.blocks.items c.self.inside.length c.self.inside.room c.args.index c.index_mut.result.now
    (with_item c.index_mut.result.now (c.args.index % 1024) c.args.item) c.args.item c.self.invariant there c.index_mut.ensures.value refl refl

pub returns : goal.returns
returns g c =
    let there : c.args.index < length (joined c.self.inside.blocks.items) = rw (ap (λ v. length v.0) c.self.view_is) c.requires in
    rw (← c.self.view_is)
    (ap (λ items. (items, c.self.inside.room)) (replaced c.self.inside.blocks.items c.args.index c.index_mut.result.now (with_item c.index_mut.result.now (c.args.index % 1024) c.args.item) c.args.item c.self.invariant.are_blocks there c.index_mut.ensures.value refl refl).1)
