use Rattle.std.proofs.Common.{◌≡◌, map, take}
use Rattle.rx_remote.specs.Actions.{directory_blob}
use Rattle.rx_remote.proofs.jobs.directory_blobs.Given as goal

abbrev pub invariant-loop-directory : goal.invariant-loop-directory
invariant-loop-directory l = l.blobs.items ≡ map directory_blob (take l.directory-index l.directories)
