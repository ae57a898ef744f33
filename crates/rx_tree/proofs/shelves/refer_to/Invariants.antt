use Rattle.std.proofs.Common.{◌≡◌, take}
use Rattle.rx_tree.specs.Shelves.{blobs_of}
use Rattle.rx_tree.proofs.shelves.refer_to.Given as goal

abbrev pub invariant-loop-blob : goal.invariant-loop-blob
invariant-loop-blob l = blobs_of l.refs.items ≡ take l.blob-index l.blobs
