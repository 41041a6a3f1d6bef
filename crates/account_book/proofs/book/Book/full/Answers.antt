use Rattle.std.proofs.Common.{◌≡◌, ◌∙◌, sym, ap, length, refl}
use Rattle.account_book.proofs.RoomMeets.{full_is}
use Rattle.account_book.proofs.book.Book.full.Goals as goal

pub returns : goal.returns
returns c =
    let long : c.len.result ≡ length c.self.inside.journal.history = c.len.ensures.value ∙ ap (λ kept. length kept.history) (sym c.self.view_is) in
    rw
    (sym c.self.view_is, full_is c.self.inside.journal.config c.self.inside.max_entries c.self.inside.journal.history c.args.call.now, c.room_wanted.ensures.value, c.environments.ensures.value, long) refl
