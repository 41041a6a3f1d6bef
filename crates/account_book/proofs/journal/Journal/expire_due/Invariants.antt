use Rattle.std.proofs.Common.{vec_len}
use Rattle.account_book.proofs.Expiring.{IsExpiring}
use Rattle.account_book.proofs.journal.Journal.expire_due.Given as goal

abbrev pub invariant-loop-room : goal.invariant-loop-room
invariant-loop-room l = IsExpiring l.moment l.initial.self l.self l.initial.rooms.items l.rooms.items

abbrev pub decreases-loop-room : goal.decreases-loop-room
decreases-loop-room l = vec_len l.rooms
