-- A pass that won was told so, and none that was late won; and the type that the ends of remote attempts have.
use Rattle.std.proofs.Common.{◌≡◌, ◌∙◌, Some, true, ap, refl, sym}
use Rattle.rx_core.proofs.Cases.{false-true}
use Rattle.rx_race.specs.declared.events.Verdict.TheVariants.{Late, Noted, Won}
use Rattle.rx_race.specs.declared.slips.Slip.{Slip}
use Rattle.rx_race.specs.declared.slips.Slip.TheVariants.{Live, Refused, Stopped, Told, Unused, Yielded}
use Rattle.rx_race.specs.Slips.{told_in}
use Rattle.rx_world.specs.declared.attempts.End.{End}
use Rattle.rx_world.specs.declared.outcomes.Outcome.{Outcome}
use Rattle.rx_world.specs.declared.remote_causes.RemoteCause.{RemoteCause}
use Rattle.rx_engine.specs.Racing.{is_told_won}

pub won-slip : (slip : Slip) → is_told_won slip ≡ true → slip ≡ Told Won
won-slip (Told Won) e = refl
won-slip (Told Late) e = false-true e
won-slip (Told Noted) e = false-true e
won-slip Unused e = false-true e
won-slip Refused e = false-true e
won-slip Live e = false-true e
won-slip (Stopped seen) e = false-true e
won-slip (Yielded seen) e = false-true e

pub late-won : (slip : Slip) → told_in slip ≡ Some Late → slip ≡ Told Won → ⊥
late-won slip late won = let never : Some Late ≡ Some Won = sym late ∙ ap told_in won in cc

abbrev pub as-remote : End Outcome RemoteCause → End Outcome RemoteCause
as-remote end = end
