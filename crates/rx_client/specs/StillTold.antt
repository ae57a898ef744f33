-- What an object tells of itself, for as long as it does.
use Rattle.std.specs.Prelude.{Option, Some, None}

-- What is told afterwards was told before too, and the two meet the fact. An object may stop telling, as where it lacks memory for it.
abbrev pub StillTold : {A : Type 0} → Option A → Option A → (A → A → Type 0) → Type 0
StillTold before None Fact = Unit {0}
StillTold None (Some after) Fact = ⊥
StillTold (Some before) (Some after) Fact = Fact before after
