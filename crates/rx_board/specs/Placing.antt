-- Files that are placed one after the other.
use Rattle.std.specs.Prelude.{◌≡◌, List, Option}
use Rattle.rx_base.specs.Told.{Told}
use Rattle.rx_world.specs.declared.outcomes.FileOut.{FileOut}
use Rattle.rx_world.specs.Files.{all_placed_by}

-- the place holds these files too afterwards, each in place of the one at its path, and else what it held
abbrev pub PlacesAll : Option (List FileOut) → Option (List FileOut) → List FileOut → Type 0
PlacesAll old new files = Told old new (λ x y. y ≡ all_placed_by (λ file. file.path) files x)
