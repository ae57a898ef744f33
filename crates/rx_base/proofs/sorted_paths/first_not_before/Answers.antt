use Rattle.std.proofs.Common.{rules}
use Rattle.std.proofs.lemmas.List.Sorted.{IsPartitionPoint-from_clause}
use Rattle.rx_base.specs.SortedPaths.{is_before}
use Rattle.rx_base.proofs.SortedSearch.{before_first}
use Rattle.rx_base.proofs.sorted_paths.first_not_before.Goals as goal

pub returns : goal.returns
returns c =
    IsPartitionPoint-from_clause (λ other. is_before other c.args.path.now) c.args.paths.now c.partition_point.result c.partition_point.ensures.partitioned
    (before_first c.args.paths.now c.requires c.args.path.now) (λ a r q k. search rules)
