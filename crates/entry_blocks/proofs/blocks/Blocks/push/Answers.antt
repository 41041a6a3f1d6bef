use Rattle.std.proofs.Common.{◌<◌, ◌-◌, ap, arith}
use Rattle.entry_blocks.proofs.Kept.{block_has_room, row_appended}
use Rattle.entry_blocks.proofs.blocks.Blocks.push.Goals as goal

pub put-requires : goal.put-requires
put-requires g c =
    let some : 0 < c.self.inside.room = rw (ap (λ v. v.1) c.self.view_is) c.requires in
    let room = block_has_room c.self.inside.blocks.items c.self.inside.length c.self.inside.room c.index_mut.result.now c.self.invariant some c.index_mut.ensures.value in
    omega (arith, c.index_mut.result.now.ok.0, room.0, room.1)

pub invariant_of-self : goal.invariant_of-self
invariant_of-self g c =
    let some : 0 < c.self.inside.room = rw (ap (λ v. v.1) c.self.view_is) c.requires in
    (row_appended c.self.inside.blocks.items c.self.inside.length c.self.inside.room c.index_mut.result.now c.put.new.block c.args.item c.self.invariant some c.index_mut.ensures.value c.put.ensures.items c.put.ensures.capacity).0

pub returns : goal.returns
returns g c =
    let some : 0 < c.self.inside.room = rw (ap (λ v. v.1) c.self.view_is) c.requires in
    let after = row_appended c.self.inside.blocks.items c.self.inside.length c.self.inside.room c.index_mut.result.now c.put.new.block c.args.item c.self.invariant some c.index_mut.ensures.value c.put.ensures.items c.put.ensures.capacity in
    rw (← c.self.view_is) (ap (λ items. (items, c.self.inside.room - 1)) after.1)
