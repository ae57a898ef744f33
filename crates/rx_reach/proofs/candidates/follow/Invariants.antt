use Rattle.rx_reach.specs.Scans.{Scans}
use Rattle.rx_reach.specs.Scenes.{Always, Sees}
use Rattle.rx_reach.proofs.FollowLemmas.{GoesOn}
use Rattle.rx_reach.proofs.candidates.follow.Given as goal

abbrev pub invariant-loop-step : goal.invariant-loop-step
invariant-loop-step g l = record {
  scans : Scans g.W.World g.S.Sources l.fn.sources l.sources l.fn.sights l.sights Always;
  right : Sees l.sights (λ scene. GoesOn scene l.passed l.fn.path l.left l.step-index);
}
