-- Decisions that end an attempt which still runs.
use Rattle.std.specs.Prelude.{◌≡◌, Option, Some}
use Rattle.rx_world.specs.declared.decisions.Decision.{Decision}
use Rattle.rx_world.specs.declared.decisions.Decision.TheVariants.{By, Cancelled, Nothing, Undecided}

-- an attempt won, or the client gave up: while an attempt runs, nothing else is decided
abbrev pub IsSettled : Decision → Type 0
IsSettled Undecided = ⊥
IsSettled (By attempt) = Unit {0}
IsSettled Cancelled = Unit {0}
IsSettled Nothing = ⊥

-- a settled decision, which was told
abbrev pub StopsBy : Option Decision → Decision → Type 0
StopsBy told decision = IsSettled decision × (told ≡ Some decision)
