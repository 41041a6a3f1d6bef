use Rattle.std.proofs.Common.{◌≡◌, ◌+◌, drop}
use Rattle.account_book.specs.Fleets.{put_all}
use Rattle.account_book.proofs.site.put_all.Given as goal

abbrev pub invariant-loop-pair : goal.invariant-loop-pair
invariant-loop-pair l =
    (put_all (drop l.pair-index l.moves) l.answers.0 ≡ put_all l.moves l.initial.answers.0) × (l.answers.1 + l.pair-index ≡ l.initial.answers.1)
