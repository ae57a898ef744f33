use Rattle.std.proofs.Common.{◌≡◌, length}
use Rattle.rx_base.specs.Texts.{texts}
use Rattle.rx_wrap.specs.RelativePaths.{way}
use Rattle.rx_wrap.proofs.relative_paths.apart.Given as goal

abbrev pub invariant-loop-directory : goal.invariant-loop-directory
invariant-loop-directory l = way (texts l.directory) (texts l.path) ≡ way (texts l.fn.directory) (texts l.fn.path)

abbrev pub decreases-loop-directory : goal.decreases-loop-directory
decreases-loop-directory l = length l.directory
