-- Work that has begun.
use Rattle.std.specs.Prelude.{◌≡◌}
use Rattle.rx_notes.specs.declared.work.Place.{Place}
use Rattle.rx_notes.specs.declared.work.Place.TheVariants.{Here, There}

-- a thread has promised it, or what was done here keeps the promise
abbrev pub IsWork : {T P : Type 0} → (P → T → Type 0) → P → Place T P → Type 0
IsWork kept promise (There child) = child.promise ≡ promise
IsWork kept promise (Here back) = kept promise back
