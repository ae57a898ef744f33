-- The paths that were looked at, and the directories among them.
use Rattle.std.specs.Prelude.{◌≡◌, ℕ, Bool, false, List, Option, None, Some}
use Rattle.rx_world.specs.declared.looks.Look.{Look}
use Rattle.rx_world.specs.declared.looks.Look.TheVariants.{Dir}
use Rattle.rx_reach.specs.Candidates.{is_dir}
use Rattle.rx_reach.specs.Sights.{seen_at}

abbrev pub is_dir_seen : Option Look → Bool
is_dir_seen None = false
is_dir_seen (Some look) = is_dir look

-- a directory was seen at the path
abbrev pub IsDirSeen : List (List ℕ × Look) → List ℕ → Type 0
IsDirSeen sights path = seen_at sights path ≡ Some Dir
