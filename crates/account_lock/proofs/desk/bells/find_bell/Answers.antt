use Rattle.std.proofs.Common.{nat_lt, rules}
use Rattle.std.proofs.lemmas.List.Sorted.{IsPartitionPoint-from_clause}
use Rattle.account_lock.proofs.Searching.{parted}
use Rattle.account_lock.proofs.desk.bells.find_bell.Goals as goal

pub returns-clause-between : goal.returns-clause-between
returns-clause-between g c =
    IsPartitionPoint-from_clause (λ b. nat_lt b.0 c.args.ticket) _ _ c.partition_point.ensures.partitioned
    (parted c.args.ticket c.args.bells.now c.requires) (λ a r q k. search rules)
