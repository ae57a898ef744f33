-- Paths of a source tree in memory: what stands at them, and that a world may vouch for it.
use Rattle.std.specs.Prelude.{ℕ, Bool, List, length, map, if◌then◌else◌}
use Rattle.std.specs.List.{AllByRecursion, list_any}
use Rattle.std.specs.Str.{bytes_eq}
use Rattle.rx_base.specs.SortedPaths.{AreSorted}
use Rattle.rx_fakes.specs.declared.entries.Node.{Node}
use Rattle.rx_world.specs.declared.looks.Look.TheVariants.{File}
use Rattle.rx_world.specs.declared.looks.Stamp.{Stamp}
use Rattle.rx_world.specs.declared.sources.SourceEntry.{SourceEntry}
use Rattle.rx_world.specs.Files.{placed_by}
use Rattle.rx_world.specs.Sources.{GivesContent, HasBytes}

-- only a file has bytes, and in an honest world they are those that the world has under its stamp
pub record IsGenuine (honest : Type 0) (holds : List ℕ → Stamp → List ℕ) (entry : SourceEntry) : Type 0 where
  pub bytes : HasBytes entry.look entry.bytes
  pub content : honest → GivesContent holds entry.path entry.look entry.bytes

abbrev pub AreGenuine : Type 0 → (List ℕ → Stamp → List ℕ) → List SourceEntry → Type 0
AreGenuine honest holds entries = AllByRecursion (IsGenuine honest holds) entries

-- a path with its node, as an entry of the source tree
abbrev pub entry_of : (List ℕ × Node) → SourceEntry
entry_of pair = record { path = pair.0; look = pair.1.look; bytes = pair.1.bytes }

-- each path once, in order, and all genuine
pub record AreEntries (honest : Type 0) (holds : List ℕ → Stamp → List ℕ) (nodes : List (List ℕ × Node)) : Type 0 where
  pub sorted : AreSorted (map (λ pair. pair.0) nodes)
  pub genuine : AreGenuine honest holds (map entry_of nodes)

-- whether a path is that of an entry
abbrev pub has_path : List ℕ → List SourceEntry → Bool
has_path path entries = list_any (λ entry. bytes_eq entry.path path) entries

-- one entry more, in the order of the paths; of two entries at one path the first counts
abbrev pub with_entry : SourceEntry → List SourceEntry → List SourceEntry
with_entry entry entries = if has_path entry.path entries then entries else placed_by (λ e. e.path) entry entries

-- the stamp of a file with these bytes
abbrev pub stamp_of : List ℕ → ℕ → Stamp
stamp_of bytes mark = record { size = length bytes; mark = mark }

-- a file at a path
abbrev pub file_entry : List ℕ → Stamp → Bool → List ℕ → SourceEntry
file_entry path stamp executable bytes = record { path = path; look = File stamp executable; bytes = bytes }
