-- What an object of the outside tells of itself, and goes on telling.
use Rattle.std.specs.Prelude.{Option, Some, None}

-- Where something was told before, it is told afterwards too, and the two meet the fact.
abbrev pub Told : {A : Type 0} → Option A → Option A → (A → A → Type 0) → Type 0
Told None after Fact = Unit {0}
Told (Some before) None Fact = ⊥
Told (Some before) (Some after) Fact = Fact before after
