use Rattle.std.proofs.Common.{leb, leb-true, leb-false, rules}
use Rattle.std.proofs.lemmas.List.Sorted.{IsPartitionPoint-from_clause, IsPartitionedBy-leb}
use Rattle.st_linear.specs.declared.table.Run.{Run}
use Rattle.st_linear.proofs.table.runs_up_to.Goals as goal

pub returns-clause-parted : goal.returns-clause-parted
returns-clause-parted c =
    let parted = IsPartitionedBy-leb (λ (run : Run). run.start) _ c.args.block c.requires in
    let point = IsPartitionPoint-from_clause (λ (run : Run). leb run.start c.args.block) _ _ c.partition_point.ensures.partitioned parted (λ a r q k. search rules) in
    (λ k d from below. leb-true _ _ (point.0 k d from below), λ k d from below. leb-false _ _ (point.1 k d from below))
