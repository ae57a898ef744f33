-- What an attempt has seen of its race.
use Rattle.std.specs.Prelude.{◌≡◌, IfSome, Option}
use Rattle.rx_world.specs.declared.attempts.Attempt.{Attempt}
use Rattle.rx_world.specs.declared.decisions.Decision.{Decision}
use Rattle.rx_race.specs.declared.slips.Slip.{Slip}
use Rattle.rx_race.specs.declared.slips.Slip.TheVariants.{Stopped}

-- whose attempt it is, and the decision that it saw
pub record Looked : Type 0 where
  pub attempt : Attempt
  pub seen : Option Decision

-- where a decision was seen, the pass says which
abbrev pub IsLooking : Slip → Option Decision → Type 0
IsLooking slip seen = IfSome seen (λ decision. slip ≡ Stopped decision)
