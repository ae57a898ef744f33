use Rattle.std.proofs.Common.{◌≡◌, drop}
use Rattle.rx_world.specs.Toy.{first_error}
use Rattle.rx_world.proofs.toy.error_in.Given as goal

abbrev pub invariant-loop-file : goal.invariant-loop-file
invariant-loop-file l = first_error l.files ≡ first_error (drop l.file-index l.files)
