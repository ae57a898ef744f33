-- Which words of a command aren't compile words.
use Rattle.std.specs.Prelude.{ℕ, Bool, true, false, not, ◌&&◌, ◌||◌, List, ◌++◌, Option, Some, None, if◌then◌else◌}
use Rattle.std.specs.List.{find, list_any}
use Rattle.std.specs.Option.{is_some, option_map}
use Rattle.rx_base.specs.Paths.{is_below}
use Rattle.rx_cppflags.specs.declared.meanings.Meaning.{Meaning}
use Rattle.rx_cppflags.specs.declared.meanings.Meaning.TheVariants.{Output, DependencyFile, WrittenDependencies, Bitcode}
use Rattle.rx_cppflags.specs.Meanings.{same, names_output, names_path, names_side}
use Rattle.rx_cppflags.specs.Pieces.{Saying}
use Rattle.rx_cppflags.specs.Found.{has_meaning, outputs_of}
use Rattle.rx_cppflags.specs.Made.{is_sure}
use Rattle.rx_cppflags.specs.Values.{takes_value}

-- whether no path is above or below one of the others
abbrev pub is_apart : List (List ℕ) → List ℕ → Bool
is_apart others path = not (list_any (λ other. is_below path other || is_below other path) others)

abbrev pub is_apart_output : List (List ℕ) → Option (List ℕ) → Bool
is_apart_output others None = false
is_apart_output others (Some path) = is_apart others path

-- Whether what a compiler makes by a word of this meaning is sure beside the others. Of two files of dependencies one by `-Wp,` and one by
-- `-MF`, GCC writes the first and Clang the last; bitcode without a name has another ending than an object.
abbrev pub is_sure_beside : List Saying → Meaning → Bool
is_sure_beside said meaning =
    if names_side meaning then is_sure meaning said
    else if same meaning WrittenDependencies then not (has_meaning DependencyFile said)
    else if same meaning Bitcode then has_meaning Output said
    else true

-- Whether a word is a compile word, beside all that is said, among these outputs.
abbrev pub is_in_table : List Saying → List (List ℕ) → Saying → Bool
is_in_table said outputs s =
    if names_output s.meaning then is_apart_output outputs s.path
    else if names_path s.meaning then is_some s.path
    else takes_value s.meaning s.text && is_sure_beside said s.meaning

-- the first of these words that is no compile word
abbrev pub first_outside : List Saying → List (List ℕ) → List Saying → Option (List ℕ)
first_outside said outputs words = option_map (λ s. s.word) (find (λ s. not (is_in_table said outputs s)) words)

-- the first word that is no compile word, in a command that has these outputs besides those that its words make
abbrev pub outside_of : List (List ℕ) → List Saying → Option (List ℕ)
outside_of outputs said = first_outside said (outputs ++ outputs_of said) said
