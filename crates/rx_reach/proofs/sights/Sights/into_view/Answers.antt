use Rattle.std.proofs.Common.{◌∙◌}
use Rattle.rx_reach.proofs.ViewSteps.{view-sights, view-sorted}
use Rattle.rx_reach.proofs.sights.Sights.into_view.Goals as goal

pub returns-clause-seen : goal.returns-clause-seen
returns-clause-seen c = view-sights c.self.inside.looks.entries c.in_ok-view.view c.in_ok-view.ensures ∙ c.self.view_is

pub returns-clause-sorted : goal.returns-clause-sorted
returns-clause-sorted c = view-sorted c.self.inside.looks.entries c.in_ok-view.view c.self.invariant.0 c.in_ok-view.ensures
