-- The environment variables that name directories for includes: CPATH and its kin (GCC, "Environment
-- Variables Affecting GCC").
use Rattle.std.specs.Prelude.{ℕ, Bool, List, [], ◌∷◌, map, Option, codes}
use Rattle.std.specs.List.{find, list_any}
use Rattle.std.specs.Str.{bytes_eq}
use Rattle.rx_world.specs.declared.commands.Pair.{Pair}

abbrev pub variables : List (List ℕ)
variables = codes "CPATH" ∷ codes "C_INCLUDE_PATH" ∷ codes "CPLUS_INCLUDE_PATH" ∷ codes "OBJC_INCLUDE_PATH" ∷ []

abbrev pub is_variable : List ℕ → Bool
is_variable name = list_any (λ variable. bytes_eq name variable) variables

-- the first name in an environment that is one of these
abbrev pub first_variable : List Pair → Option (List ℕ)
first_variable environment = find is_variable (map (λ pair. pair.name) environment)
