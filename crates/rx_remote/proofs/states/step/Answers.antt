use Rattle.std.proofs.Common.{refl}
use Rattle.rx_remote.proofs.RightEnds.{right-after, sound-after}
use Rattle.rx_remote.proofs.StepLemmas.{leads-step}
use Rattle.rx_remote.proofs.states.step.Goals as goal

pub returns-clause-step : goal.returns-clause-step
returns-clause-step c task history s =
    leads-step task history c.args.heard c.args.state _ c.in_ok-marks.ask s (rw c.since-marks.ensures at c.in_ok-marks.ensures.leads) refl c.phase_of-phase.ensures

pub returns-clause-right : goal.returns-clause-right
returns-clause-right c task history s = right-after task history c.args.heard c.in_ok-marks.ask (returns-clause-step c task history s).ask_is

pub returns-clause-sound : goal.returns-clause-sound
returns-clause-sound c task history s = sound-after task history c.args.heard c.in_ok-marks.ask (returns-clause-step c task history s).ask_is
