use Rattle.rx_blobs.specs.Uploads.{AreMade}
use Rattle.blob_rows.proofs.uploads.read_blobs.Given as goal

abbrev pub invariant-loop-text : goal.invariant-loop-text
invariant-loop-text l = AreMade l.blobs
