use Rattle.std.proofs.Common.{◌≡◌, length}
use Rattle.rx_grpc.specs.Each.{each}
use Rattle.rx_grpc.proofs.EachLemmas.{onto}
use Rattle.rx_grpc.proofs.blob_items.items_of.Given as goal

abbrev pub invariant-loop-answer : goal.invariant-loop-answer
invariant-loop-answer g l = each g.T.BlobItem.item l.fn.answers ≡ onto l.all.items (each g.T.BlobItem.item l.rest.items)

abbrev pub decreases-loop-answer : goal.decreases-loop-answer
decreases-loop-answer g l = length l.rest.items
