-- A list that contracts alone see.
use Rattle.std.specs.Prelude.{List, [], ◌∷◌, ◌++◌, Option, Some, None}
use Rattle.std.specs.declared.snapshot.Snapshot.{Snapshot}

-- the items before the latest one, and that one
abbrev pub all_of : {T : Type 0} → Option (Snapshot (List T) × Snapshot T) → List T
all_of None = []
all_of (Some latest) = latest.0.value ++ latest.1.value ∷ []
