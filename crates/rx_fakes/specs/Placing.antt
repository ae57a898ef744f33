-- Where an item goes in a list.
use Rattle.std.specs.Prelude.{ℕ, Bool, ◌<◌, ◌≤◌, List, insert, set}
use Rattle.rx_fakes.specs.declared.placing.Spot.{Spot}
use Rattle.rx_fakes.specs.declared.placing.Spot.TheVariants.{Taken, Free}
use Rattle.rx_world.specs.declared.outcomes.FileOut.{FileOut}

abbrev pub IsWithin : ℕ → Spot → Type 0
IsWithin count (Taken at) = at < count
IsWithin count (Free at) = at ≤ count

abbrev pub with_item : {T : Type 0} → List T → T → Spot → List T
with_item items item (Taken at) = set items at item
with_item items item (Free at) = insert items at item

-- a file at a path
abbrev pub file_out : List ℕ → List ℕ → Bool → FileOut
file_out path bytes executable = record { path = path; bytes = bytes; executable = executable }
