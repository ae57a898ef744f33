use Rattle.std.proofs.Common.{◌≡◌}
use Rattle.rx_remote.specs.declared.phases.Phase.TheVariants as phases
use Rattle.rx_remote.specs.Measure.{turns_left}
use Rattle.rx_remote.specs.Runs.{HasAsked}
use Rattle.rx_remote.proofs.begins.begin.Given as goal

abbrev pub invariant-loop-end : goal.invariant-loop-end
invariant-loop-end g l =
    HasAsked g.W.World g.C.Caller l.fn.task l.fn.caller l.caller l.state × (g.T.Stop.told l.stop ≡ g.T.Stop.told l.fn.stop)
    × (g.T.Stop.attempt l.stop ≡ g.T.Stop.attempt l.fn.stop)

abbrev pub decreases-loop-end : goal.decreases-loop-end
decreases-loop-end g l = turns_left l.state.marks phases.Capabilities
