use Rattle.std.proofs.Common.{◌≡◌, map, take}
use Rattle.rx_remote.specs.Actions.{file_blob}
use Rattle.rx_remote.proofs.jobs.file_blobs.Given as goal

abbrev pub invariant-loop-file : goal.invariant-loop-file
invariant-loop-file l = l.blobs.items ≡ map file_blob (take l.file-index l.files)
