-- The paths of a command's outputs (remote_execution.proto, Command.output_paths: "relative to the working directory ..
-- deduplicated and sorted lexicographically by code point (or, equivalently, by UTF-8 bytes)").
use Rattle.std.specs.Prelude.{◌≡◌, ℕ, ◌+◌, true, not, List, [], ◌∷◌, ◌++◌, All, length, map, drop, Option, Some, None, Result, Ok, Err, nat_eq, position, if◌then◌else◌}
use Rattle.std.specs.List.{starts_with}
use Rattle.rx_base.specs.Paths.{is_below}
use Rattle.rx_base.specs.SortedPaths.{sorted_paths}
use Rattle.rx_action.specs.declared.action_fault.ActionFault.{ActionFault}
use Rattle.rx_action.specs.declared.action_fault.ActionFault.TheVariants.{BadOutputPath}

-- which output, the first such, is the working directory or isn't below it
abbrev pub misplaced : List ℕ → List (List ℕ) → Option ℕ
misplaced directory outputs = position (λ output. not (is_below output directory)) outputs

-- each output is below the working directory
abbrev pub AreBelow : List ℕ → List (List ℕ) → Type 0
AreBelow directory outputs = All (λ output. is_below output directory ≡ true) outputs

abbrev pub checked : Option ℕ → Result (Unit {0}) ActionFault
checked None = Ok tt
checked (Some at) = Err (BadOutputPath at)

-- A path on from a directory: without the directory's path and a slash in front. On from the root it is the whole path,
-- which never begins with a slash.
abbrev pub path_behind : List ℕ → List ℕ → List ℕ
path_behind directory path =
    if starts_with nat_eq path (directory ++ 47 ∷ []) then drop (length directory + 1) path else path

-- the outputs' paths on from the working directory, in the order of their bytes, each once
abbrev pub output_paths : List ℕ → List (List ℕ) → List (List ℕ)
output_paths directory outputs = sorted_paths (map (path_behind directory) outputs)
