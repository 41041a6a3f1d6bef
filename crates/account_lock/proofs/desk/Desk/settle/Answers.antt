use Rattle.std.proofs.Common.{rules, ◌≡◌, ◌^◌}
use Rattle.account_lock.specs.Counting.{counts_of}
use Rattle.account_lock.specs.Gathered.{parts_in, counts_in}
use Rattle.account_lock.specs.Settlement.{IsKept}
use Rattle.account_lock.proofs.desk.Desk.settle.Goals as goal

pub returns-in-None-clause-settled : goal.returns-in-None-clause-settled
returns-in-None-clause-settled g c =
    let h = c.args.self.book.history in
    let tallies = c.args.tallies.items in
    let parts : parts_in tallies ≡ 2 ^ 32 = search rules in
    let counts : counts_in tallies ≡ counts_of h = search rules in
    let kept : IsKept g.K.Keep.ALL h tallies = search rules in
    record { parts = parts; counts = counts; kept = kept }
