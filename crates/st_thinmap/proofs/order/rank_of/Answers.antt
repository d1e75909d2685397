use Rattle.std.proofs.Common.{ltb, ltb-true, ltb-false, rules}
use Rattle.std.proofs.lemmas.List.Sorted.{IsPartitionPoint-from_clause, IsPartitionedBy-ltb}
use Rattle.st_thinmap.specs.declared.mapping.Mapping.{Mapping}
use Rattle.st_thinmap.specs.Order.{key}
use Rattle.st_thinmap.proofs.Rising.{rises-sorted, rank-is}
use Rattle.st_thinmap.proofs.order.rank_of.Goals as goal

pub returns-clause-rank : goal.returns-clause-rank
returns-clause-rank c =
    let parted = IsPartitionedBy-ltb key _ c.args.wanted (rises-sorted key 0 _ c.requires) in
    let point = IsPartitionPoint-from_clause (λ (x : Mapping). ltb (key x) c.args.wanted) _ _ c.partition_point.ensures.partitioned parted (λ a r q k. search rules) in
    rank-is key c.args.wanted _ _ (λ k d from below. ltb-true _ _ (point.0 k d from below), λ k d from below. ltb-false _ _ (point.1 k d from below)) c.partition_point.ensures.bound
