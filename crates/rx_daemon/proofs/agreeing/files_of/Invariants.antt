use Rattle.std.proofs.Common.{◌≡◌, length}
use Rattle.rx_engine.specs.Journal.{files_of}
use Rattle.rx_daemon.proofs.agreeing.files_of.Given as goal

abbrev pub invariant-loop-end : goal.invariant-loop-end
invariant-loop-end l = files_of l.rest ≡ files_of l.ends

abbrev pub decreases-loop-end : goal.decreases-loop-end
decreases-loop-end l = length l.rest
