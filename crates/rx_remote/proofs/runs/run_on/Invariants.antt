use Rattle.std.proofs.Common.{◌≡◌}
use Rattle.rx_remote.specs.Actions.{stored_of}
use Rattle.rx_remote.specs.Marks.{phase_of}
use Rattle.rx_remote.specs.Measure.{turns_left}
use Rattle.rx_remote.specs.Runs.{HasGone}
use Rattle.rx_remote.proofs.runs.run_on.Given as goal

abbrev pub invariant-loop-end : goal.invariant-loop-end
invariant-loop-end g l =
    HasGone g.W.World g.C.Caller g.S.Sources l.fn.action.digest (stored_of l.fn.action) l.fn.action.job.files.now
    l.fn.caller l.caller l.fn.sources l.sources l.fn.going l.going ×
    (g.T.Stop.told l.stop ≡ g.T.Stop.told l.fn.stop) × (g.T.Stop.attempt l.stop ≡ g.T.Stop.attempt l.fn.stop)

abbrev pub decreases-loop-end : goal.decreases-loop-end
decreases-loop-end g l = turns_left l.going.state.marks (phase_of l.going.ask)
