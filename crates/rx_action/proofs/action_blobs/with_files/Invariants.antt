use Rattle.std.proofs.Common.{◌≡◌, ◌++◌, map, take}
use Rattle.rx_action.specs.ActionBlobs.{file_digest}
use Rattle.rx_action.proofs.action_blobs.with_files.Given as goal

abbrev pub invariant-loop-file : goal.invariant-loop-file
invariant-loop-file l = l.digests.items ≡ l.fn.digests.items ++ map file_digest (take l.file-index l.files)
