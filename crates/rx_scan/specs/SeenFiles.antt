-- The files of an input tree as they were seen.
use Rattle.std.specs.Prelude.{ℕ, List, Option, None, Some}
use Rattle.rx_world.specs.declared.looks.Look.{Look}
use Rattle.rx_world.specs.declared.looks.Look.TheVariants.{Absent, Dir, File, Other}
use Rattle.rx_scan.specs.declared.seen_files.SeenFile.{SeenFile}
use Rattle.rx_reach.specs.Sights.{seen_at}

-- a file with this look
abbrev pub file_of : List ℕ → Look → Option SeenFile
file_of path Absent = None
file_of path Dir = None
file_of path Other = None
file_of path (File stamp executable) = Some (record { path = path; stamp = stamp; executable = executable })

abbrev pub file_of_seen : List ℕ → Option Look → Option SeenFile
file_of_seen path None = None
file_of_seen path (Some look) = file_of path look

-- the file that was seen at a path, where it was one
abbrev pub file_seen : List (List ℕ × Look) → List ℕ → Option SeenFile
file_seen sights path = file_of_seen path (seen_at sights path)
