use Rattle.rx_blobs.specs.Uploads.{AreMade}
use Rattle.blob_rows.proofs.copies.copies_of.Given as goal

abbrev pub invariant-loop : goal.invariant-loop
invariant-loop l = AreMade l.blobs
