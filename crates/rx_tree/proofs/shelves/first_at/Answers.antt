use Rattle.std.proofs.Common.{rules}
use Rattle.std.specs.Borrow.{Bor}
use Rattle.std.specs.Ordering.{is_lt}
use Rattle.std.proofs.lemmas.List.Sorted.{IsPartitionPoint-from_clause}
use Rattle.rx_base.specs.Digests.{by_digest}
use Rattle.rx_tree.specs.declared.blobs.Blob.{Blob}
use Rattle.rx_tree.proofs.ShelfLemmas.{partitioned}
use Rattle.rx_tree.proofs.shelves.first_at.Goals as goal

pub returns : goal.returns
returns c =
    IsPartitionPoint-from_clause (λ (blob : Bor Blob). is_lt (by_digest blob.now.digest c.args.digest.now)) c.args.sorted.now c.partition_point.result c.partition_point.ensures.partitioned
    (partitioned c.args.sorted.now c.args.digest.now c.requires) (λ a r q k. search rules)
