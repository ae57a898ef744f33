use Rattle.std.proofs.Common.{◌≡◌, [], length, true}
use Rattle.rx_blobs.specs.Uploads.{IsUploading}
use Rattle.rx_blobs.proofs.uploads.upload.Given as goal

abbrev pub invariant-loop-keeper : goal.invariant-loop-keeper
invariant-loop-keeper g l = record {
  uploaded : IsUploading g.W.World g.C.Caller g.S.Sources l.fn.caller l.caller l.fn.sources l.sources l.fn.what.blobs.now l.rest l.left_out.items;
  fresh : l.fn.what.fresh ≡ true → l.left_out.items ≡ [];
}

abbrev pub decreases-loop-keeper : goal.decreases-loop-keeper
decreases-loop-keeper g l = length l.rest
