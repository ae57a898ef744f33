use Rattle.std.proofs.Common.{◌≡◌, take}
use Rattle.rx_scan.specs.Inputs.{empty_among}
use Rattle.rx_scan.proofs.inputs.empty_among.Given as goal

abbrev pub invariant-loop-dir : goal.invariant-loop-dir
invariant-loop-dir l = l.empty ≡ empty_among l.files (take l.dir-index l.dirs)
