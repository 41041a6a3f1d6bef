use Rattle.std.proofs.Common.{◌≡◌, suc, length, All, sym, ◌∷◌, [], ap, ◌∙◌, length-append, add-one}
use Rattle.std.proofs.lemmas.List.Elements.{All-take}
use Rattle.account_book.specs.Room.{IsRoom}
use Rattle.account_book.proofs.Expiring.{expires_one}
use Rattle.account_book.proofs.journal.Journal.expire_due.Goals as goal

pub loop-room-preserved : goal.loop-room-preserved
loop-room-preserved c =
    let empty : All (IsRoom c.args.self.now.widest) c.pop.new.self.items = rw c.in-Some.ensures.rest (All-take (IsRoom c.args.self.now.widest) _ c.loop-room.rooms.items c.loop-room.invariant.supplied) in
    let longer : suc (length c.pop.new.self.items) ≡ length c.loop-room.rooms.items = sym (ap length c.in-Some.ensures.items ∙ length-append c.pop.new.self.items (c.in-Some.room ∷ []) ∙ add-one (length c.pop.new.self.items)) in
    expires_one c.args.moment c.args.self.now c.loop-room.self c.expire_first.new.self c.args.rooms.items c.loop-room.rooms.items c.pop.new.self.items c.loop-room.invariant
    longer empty c.expire_first.ensures.expired c.expire_first.ensures.legal
