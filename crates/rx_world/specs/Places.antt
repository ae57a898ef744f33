-- What a place holds.
use Rattle.std.specs.Prelude.{◌≡◌, ℕ, Bool, List, Option}
use Rattle.rx_base.specs.Told.{Told}
use Rattle.rx_world.specs.declared.outcomes.FileOut.{FileOut}
use Rattle.rx_world.specs.Files.{with_file}

-- the file stands at its path afterwards, and every other file as before
abbrev pub Places : Option (List FileOut) → Option (List FileOut) → List ℕ → List ℕ → Bool → Type 0
Places old new path bytes executable =
    Told old new (λ x y. y ≡ with_file (record { path = path; bytes = bytes; executable = executable }) x)
