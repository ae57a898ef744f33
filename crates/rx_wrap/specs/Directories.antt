-- Paths of the machine as paths below the root.
use Rattle.std.specs.Prelude.{ℕ, List, [], Option, Some, codes, if◌then◌else◌}
use Rattle.std.specs.Io.BufRead.{strip_last}
use Rattle.std.specs.Option.{option_and_then}
use Rattle.std.specs.Str.{bytes_eq}
use Rattle.rx_wrap.specs.Cuts.{stripped}

-- a directory without a slash at its end
abbrev pub unslashed : List ℕ → List ℕ
unslashed directory = strip_last 47 directory

-- the same, but for the root of the system
abbrev pub trimmed : List ℕ → List ℕ
trimmed directory = if bytes_eq directory (codes "/") then directory else unslashed directory

abbrev pub below_by : List ℕ → List ℕ → Option (List ℕ)
below_by directory path =
    if bytes_eq path directory then Some []
    else option_and_then (stripped (codes "/")) (stripped directory path)

-- what a path is below a directory: nothing for the directory itself, else what follows it and a slash
unfoldable pub below : List ℕ → List ℕ → Option (List ℕ)
below directory path = below_by (unslashed directory) path
