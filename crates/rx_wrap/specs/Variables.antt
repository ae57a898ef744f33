-- The variables that a command gets.
use Rattle.std.specs.Prelude.{ℕ, List, [], ◌∷◌, ◌++◌, Bool, not, ◌&&◌, Option, codes, if◌then◌else◌}
use Rattle.std.specs.List.{filter_map, find, list_any}
use Rattle.std.specs.Str.{bytes_eq}
use Rattle.rx_world.specs.declared.commands.Kind.{Kind}
use Rattle.rx_world.specs.declared.commands.Pair.{Pair}
use Rattle.rx_wrap.specs.Choices.{is_compile}

-- the first variable of a name
abbrev pub variable_named : List Pair → List ℕ → Option Pair
variable_named variables name = find (λ (variable : Pair). bytes_eq variable.name name) variables

-- the variables of these names, as far as they are set, in the order of the names
abbrev pub variables_named : List Pair → List (List ℕ) → List Pair
variables_named variables names = filter_map (variable_named variables) names

-- one of the names is PWD
abbrev pub names_directory : List (List ℕ) → Bool
names_directory names = list_any (λ name. bytes_eq name (codes "PWD")) names

-- by it compilers name the working directory in debug information: a name that is the same in each sandbox and on a farm
abbrev pub own_directory : Pair
own_directory = record { name = codes "PWD"; value = codes "/proc/self/cwd" }

-- The variables that the allowlist names, and for a compile step PWD=/proc/self/cwd, unless the list names PWD itself.
abbrev pub environment_of : Kind → List Pair → List (List ℕ) → List Pair
environment_of kind variables names =
    if is_compile kind && not (names_directory names) then variables_named variables names ++ own_directory ∷ []
    else variables_named variables names
